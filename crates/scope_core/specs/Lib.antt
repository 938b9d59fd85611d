pub mod Standing
pub mod ScopeFaults
pub mod Places
pub mod OneScopeFault
pub mod inside
