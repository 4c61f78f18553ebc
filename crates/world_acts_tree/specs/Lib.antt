pub mod TreeKinds
