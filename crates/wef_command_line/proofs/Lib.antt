mod Apps
mod Digits
mod Firsts
mod Found
mod Lines
