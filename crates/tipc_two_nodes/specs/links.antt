-- A node whose pair has two links, as the sender and the receiver of the law of two links.
pub mod Acting
pub mod Arriving
pub mod Ends
pub mod Following
pub mod Landing
pub mod Laws
pub mod Packets
pub mod Receiving
pub mod Sending
pub mod Steps
pub mod Traffic
pub mod Turning
