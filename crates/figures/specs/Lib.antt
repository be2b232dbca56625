-- The figures of a window, read from lent areas.
pub mod Window
