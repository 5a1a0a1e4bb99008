-- A disk that is read in large pieces.
use Rattle.store_disk.specs.declared.disk.Disk.{Ghosts}
use Rattle.store_disk.specs.declared.read_ahead.ReadAhead.{ReadAhead}

-- the inner disk
abbrev pub disk_in : {D : Type 0} {ghosts : Ghosts D} → ReadAhead D ghosts → D
disk_in disk = disk.inner
