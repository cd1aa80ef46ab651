pub mod AclFile
pub mod CommandLine
pub mod Program
