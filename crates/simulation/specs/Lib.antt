pub mod Simulation
pub mod Shortest
pub mod Rule
pub mod Plan
