mod Rows
mod Sends
mod Staying
