pub mod Asking
pub mod Bag
pub mod Chain
pub mod Held
pub mod Listing
pub mod Order
pub mod Range
pub mod Walk
