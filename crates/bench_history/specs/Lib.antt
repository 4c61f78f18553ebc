-- What a log says, what may come next in it, and what a legal log is. Begin with Next (`next_of`, `IsLegal`) and Cases, with one definition
-- for each case of the kernel. Effects is what each action results in, and Refusals is why one is refused. History, Dues, Passing, Ports,
-- Sequences, Reports, Wires and Configuration are what the log says. Laws is what holds of all logs. A file has its auxiliary definitions
-- first and its main definition last. A name from Rust, as `Entry`, is the type of that name in `src/` of the crate in its `use` line.
-- A name or a glob is the list of its bytes, and a path the list of its names. An object (`Who`) has the number of its node.
pub mod Limits
pub mod EventTargets
pub mod History
pub mod Configuration
pub mod Objections
pub mod Reports
pub mod Wires
pub mod Sequences
pub mod Ports
pub mod Arbitration
pub mod Dues
pub mod Passing
pub mod Refusals
pub mod Effects
pub mod Cases
pub mod Next
pub mod Laws
pub mod Coming
pub mod LegalLogs
