pub mod ListingLemmas
pub mod ReadLemmas
pub mod RunLemmas
pub mod DrawnLemmas
pub mod LengthLemmas
pub mod GraphicLemmas
pub mod PatchLemmas
