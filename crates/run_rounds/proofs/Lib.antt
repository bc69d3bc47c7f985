mod Beginning
mod Ordering
mod Telling
mod Sharing
