-- A look by what the arrival comes to, in the shape of the code's returns.
pub mod Laws
