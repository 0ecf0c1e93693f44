mod Noting
mod Sharing
