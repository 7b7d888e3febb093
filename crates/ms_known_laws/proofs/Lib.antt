mod Read
mod Origins
mod Parts
mod Spelled
mod Held
mod Sorted
mod Outputs
