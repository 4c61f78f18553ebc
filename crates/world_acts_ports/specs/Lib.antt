pub mod PortsKinds
