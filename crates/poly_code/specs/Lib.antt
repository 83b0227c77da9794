pub mod Polynomial
pub mod Code
pub mod Lagrange
pub mod Laws
