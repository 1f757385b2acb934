mod Drawing
mod Known
