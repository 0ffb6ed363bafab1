mod Cuts
mod Hexes
mod Stretched
mod Told
