pub mod Arguments
pub mod Usage
pub mod Numbers
