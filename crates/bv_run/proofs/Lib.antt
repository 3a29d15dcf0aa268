pub mod RunLaws
pub mod Agreement
