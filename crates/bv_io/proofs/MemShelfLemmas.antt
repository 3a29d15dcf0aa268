-- What a put into a shelf in memory changes, by its answer.
use Rattle.std.proofs.Common.{◌≡◌, ◌≢◌, ℕ, List, Some, Result, Ok, Err, OnOk, ap}
use Rattle.std.specs.FinMap.{get}
use Rattle.bv_io.specs.declared.shelf.PutError.{PutError}
use Rattle.bv_io.specs.declared.shelf.PutError.TheVariants.{Failed, NoMemory}
use Rattle.bv_io.specs.MemShelf.{MemShelfState, state_put}
use Rattle.bv_io.proofs.FilesLemmas.{get-insert_same, get-insert_other}
use Rattle.std.proofs.Common.{refl}

pub put_stores : (old : MemShelfState) (name bytes : List ℕ) (answer : Result Unit PutError) → OnOk answer (get (state_put old name bytes answer).held name ≡ Some bytes)
put_stores old name bytes (Ok _) = get-insert_same old.held name bytes
put_stores old name bytes (Err e) = tt

pub put_keeps_others : (old : MemShelfState) (name bytes : List ℕ) (answer : Result Unit PutError) (n : List ℕ) → n ≢ name → Some (get (state_put old name bytes answer).held n) ≡ Some (get old.held n)
put_keeps_others old name bytes (Ok _) n apart = ap (λ h. Some h) (get-insert_other old.held name bytes n apart)
put_keeps_others old name bytes (Err Failed) n apart = refl
put_keeps_others old name bytes (Err NoMemory) n apart = refl
