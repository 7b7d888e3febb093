mod Walks
mod Fronts
mod Belongs
mod Placed
mod Going
mod Whole
