pub mod WrittenBlocks
