mod TreeLines
pub mod ToldBounds
mod ItemLines
mod PlanLines
mod PolicyLines
