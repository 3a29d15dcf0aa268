pub mod Input
pub mod Reports
pub mod Machine
pub mod Swi
pub mod Step
pub mod Stretch
pub mod Board
pub mod Image
