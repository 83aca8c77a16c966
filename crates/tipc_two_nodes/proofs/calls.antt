-- The calls of a pair that bring nothing, as deeds of the node and events of the sender.
pub mod EndingTwins
pub mod Linking
pub mod HadSessions
pub mod PieceTwins
pub mod Chaining
pub mod PairViews
pub mod QuietCourses
pub mod TurnCourses
pub mod CallCourses
pub mod SendTwins
pub mod Stretches
pub mod TalkerPairs
pub mod Talkers
pub mod TalkerTurns
