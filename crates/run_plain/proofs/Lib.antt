mod Tellers
mod Spreading
mod Gathered
mod PlainMoments
