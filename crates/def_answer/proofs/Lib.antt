pub mod TheHeight
