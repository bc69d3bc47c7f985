mod Leaders
mod Scans
mod TopLaws
mod Wakers
