-- The answers as text, a text in a lent area, and a refusal as a result, as Specification 9 goes.
pub mod Text
pub mod Answers
pub mod Parts
pub mod Page
pub mod Lengths
pub mod Refusal
