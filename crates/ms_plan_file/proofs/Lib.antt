pub mod Tables
mod PlanRefusals
pub mod Forms
mod Usable
