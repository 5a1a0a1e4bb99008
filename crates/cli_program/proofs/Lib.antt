mod DumpedLemmas
mod Scripted
mod SourceDone
mod Sources
