-- The definitions of words and instructions: fields, numbers, the table of classes, words, the test of validity, immediates.
pub mod Fields
pub mod Numbers
pub mod Table
pub mod Words
pub mod Valid
pub mod Immediates
