-- Laws of texts in areas, of decimal numbers and of lines; the text of each answer; the longest text; what a first line
-- says, and what the result of a refusal says.
pub mod Pages
pub mod Digits
pub mod Lines
pub mod Cases
pub mod Longest
pub mod Reading
pub mod Refusals
