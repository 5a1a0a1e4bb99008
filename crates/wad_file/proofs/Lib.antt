pub mod NameLemmas
pub mod DirectoryLemmas
pub mod WrittenLemmas
pub mod DraftLemmas
pub mod PlacedLemmas
pub mod BufferLemmas
