pub mod Ending
pub mod Showing
pub mod Promising
pub mod Alike
