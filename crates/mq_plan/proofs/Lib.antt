mod ArrowLemmas
mod SideLemmas
mod LoopLemmas
mod PlaceLemmas
mod RenameLemmas
mod OwnLemmas
