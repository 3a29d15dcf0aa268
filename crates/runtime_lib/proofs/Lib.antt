-- The proofs of the routines.
mod ClosingTextProof
mod ClosingWordProof
mod DigitLaws
mod DigitParts
mod DivisionLaws
mod DivisionProof
mod EntryParts
mod EntrySearch
mod ErrorSearch
mod ItemNumberProof
mod Leading
pub mod LibraryLaws
mod LineEndProof
mod NextItemProof
mod NumberParts
mod NumberProof
mod OpeningProof
mod ProductProof
mod QuotientProof
pub mod RangeLaws
mod ReadingLaws
mod ReadingParts
mod RunProof
mod SignedLaws
mod SignedParts
mod SomeSpacesProof
mod StringOutProof
mod TextParts
mod ToFieldProof
mod ToTabProof
mod TurningLaws
mod TurningProof
mod WritingParts
