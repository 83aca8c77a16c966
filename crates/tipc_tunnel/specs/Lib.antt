pub mod Tunnels
pub mod Unwrapped
