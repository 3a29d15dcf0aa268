-- `bytes_mut` lends the bytes, and the block has those that are written through the `&mut`.
use Rattle.std.proofs.Common.{◌≡◌, ℕ, suc, ◌+◌, ◌-◌, ◌*◌, ◌^◌, ◌<◌, List, [], ◌∷◌, length, refl, sym, ap, ◌∙◌, arith, w64, MutBor}
use seplogic.Ra.Ura.{Ura}
use base.Fraction.{full_share}
use base.Logic.{SProp, ent, sep, id⊢}
use base.Fml.{Fml, GName, ftrue, fsep, flft, froom}
use contract.Monad.{fact}
use contract.Running.{tables}
use mir.Syntax.{named}
use mir.Val.{Val}
use types.Kit.{‵, raw, ◌⊛◌, some, later, await, pick, at_ret, ◌$◌, ◌∵◌, !, qed, move, keep, use1, split, split3, join, group, fsplit, fsplit3, fjoin, fjoin3, fpack, flt_l, flt_i, rewrite, suffices, frame, done}
use types.Logic.{Logic, sem}
use types.Part.{whole, sub, look_in, agg}
use types.Run.{enter, of_opd, load, stop, fld, first, blocks, exec, returns, and_then, no_more}
use types.ByLocal.{alloc_all, pass_all, free_all, look_at, get, through, sets, sets_last, env}
use types.SemTy.{cells}
use denote.Exit.{yes, no}
use denote.RattleType.{owns}
use denote.Array.{Array}
use denote.Builtin.{u8, usize}
use denote.Follow.{follows}
use denote.FollowSlice.{Elements, lends_Elements}
use denote.Index.{whole_out, whole_in}
use denote.Laws.{shows}
use denote.Memory.{mem, cell_at, part_of}
use denote.Plain.{uint_vals, uint_Tells}
use denote.RawPtr.{Ptr, block_ptr, in_a_block}
use denote.RawPtr.Bytes.{bytes}
use denote.Ref.{MutRef, mut_vals, mut_Tells}
use denote.Signature.{plain, mut_ref_to}
use denote.Slice.{MutSlice, slice_val}
use denote.Steps.{nothing, opens, peeks, heard}
use denote.Triple.Walked.{Stays, stay_dropped, walk_of, says, Goes-spent_ref, Goes-dropped, ends_at}
use Rattle.std.proofs.raw_atomic.Walks.{proved}
use Rattle.std.proofs.VecSteps.Shapes.{after}
use Rattle.bv_ram.specs.Ownership.{bytes_type, block_owns}
use Rattle.bv_ram.specs.Lends.{with_bytes}
use Rattle.bv_ram.specs.contracts.block.Block.{the_row as R}
use Rattle.bv_ram.specs.contracts.block.Block.bytes_mut as f
use Rattle.bv_ram.proofs.block.Block.TheLaws.{lowers}
use Rattle.bv_ram.proofs.Shown.{Fields}
use Rattle.bv_ram.proofs.block.Block.bytes_mut.Statement.{statement}
use Rattle.bv_ram.proofs.block.Block.bytes_mut.Code as code

abbrev stayed : Stays f.ended.signature.params f.ended.kept
stayed = (stay_dropped (mut_ref_to (0 ∷ []) tt (plain (λ _. R))) no, (stay_dropped (plain (λ _. usize)) yes, tt))

module _ {M : Type 1} {𝓤 : Ura M} (𝓛 : Logic 𝓤) (h : R.Denot) (us : List Val) (b o b' o' : ℕ) where
  -- the block but for its bytes: the room after them, the pointer, and the struct's cell
  abbrev Rest : Fml
  Rest = fsep (froom (bytes_type (h.room - length h.bytes)) b' (o' + length h.bytes)) (fsep (Fields.own_val (h.start, tt) us) (cell_at full_share R.mir us b o))

  -- with as many bytes as before it is a block again
  back : h.start ≡ block_ptr b' o' → h.room < 2 ^ 63 → length h.bytes < suc h.room → (ws : List ℕ) → length ws ≡ length h.bytes
      → ent 𝓤 (sep 𝓤 (sem 𝓛 (cells (mem u8) ws b' o')) (sem 𝓛 Rest)) (sem 𝓛 ((mem R).own_at (with_bytes h ws) b o))
  unfolding part_of
  back e small fits ws same =
      qed 𝓛 (‵ (cells (mem u8) ws b' o') ∷ ‵ Rest ∷ []) ∵ use1 𝓛 (‵ (bytes full_share ws b' o')) (whole_out 𝓛 u8 ws b' o') $
      move ! (1 ∷ []) $ fsplit3 ! $ rewrite ! 0 (λ (k : ℕ). ‵ (froom (bytes_type (h.room - k)) b' (o' + k))) (sym same) refl $
      -- [the room; the pointer; the struct's cell; the bytes]
      move ! (3 ∷ 0 ∷ []) $ fjoin ! $ flt_i ! (length ws) (suc h.room) (omega (arith, same, fits)) $ flt_i ! h.room (2 ^ 63) small $ fjoin ! $ fjoin ! $
      rewrite ! 0 (λ (p : Ptr). ‵ (block_owns p h.room ws)) (sym e) refl $ move ! (1 ∷ 0 ∷ []) $ fjoin ! $ move ! (1 ∷ 0 ∷ []) $ fjoin ! $
      fpack ! (List Val) (λ vs. fsep (cell_at full_share R.mir vs b o) (R.own_val (with_bytes h ws) vs)) us $ done !

pub bytes_mut_spec : {M : Type 1} → statement M
bytes_mut_spec 𝓤 𝓛 𝓜 𝓡 wired =
    let c = f.clauses 𝓛 𝓜.mem 𝓡.returns in let W = walk_of 𝓛 f.ended stayed c in let 𝓣 = tables 𝓤 𝓛.H 𝓜 𝓡 𝓡.env in
    proved 𝓛 f.ended stayed c 𝓜 𝓡 (Goes-spent_ref 𝓛 1 (0 ∷ []) tt (plain (λ _. R)), (Goes-dropped 𝓛 1 (plain (λ _. usize)) yes (λ κs x w. refl), tt))
    f.Key.name code.function (code.unfolded 𝓤 𝓛.H 𝓜 𝓡 wired)
    (λ κs. (mut_vals, (uint_vals w64, tt))) (λ κs. (mut_Tells (named 0) κs.0 R, (uint_Tells w64, tt))) (λ κs qs bounds a _ are.
    let κ = κs.0 in let q = qs.0 in let b = a.0.ref_ptr.0 in let o = a.0.ref_ptr.1 in let γ = a.0.ghost_name in let h = a.0.now in
    let n = a.1.0 in let bs = h.bytes in
    let words : List Val × (List Val × Unit {0}) = (mut_vals a.0, (uint_vals w64 n, tt)) in
    let y : W.Ghost = ((κs, qs, bounds, a, words), tt) in
    let Asked : Type 0 = n ≡ length bs in
    qed 𝓛 (((‵ (flft κ q) ⊛ ‵ ftrue) ⊛ ‵ (owns (MutRef (named 0) κ R ∷ usize ∷ []) a words)) ∷ raw (fact 𝓤 Asked) ∷ []) ∵
    move ! (1 ∷ []) $ heard ! Asked (λ asked. split ! $ split ! $ move ! (2 ∷ []) $ fsplit ! $ fsplit3 ! $ keep ! (1 ∷ 2 ∷ 4 ∷ []) $
    enter ! _ _ _ _ _ $
    alloc_all ! (λ l. pass_all ! refl ((tt, tt), ((tt, record { fits = are.1.0.1 }), tt)) $
    opens ! tt R b o (λ us.
    move ! (1 ∷ []) $ peeks ! R _ (shows 𝓛 R) h us (λ is. fsplit ! $ move ! (1 ∷ []) $
    in_a_block ! h.start (λ p. block_owns p h.room bs) (id⊢ 𝓤 _) (λ b' o' e.
    fsplit ! $ fsplit ! $ flt_l ! (λ small. flt_l ! (λ fits. fsplit ! $
    let word = lowers.val_is h us is ∙ ap (λ (p : Ptr). lowers.lowered (record h { start = p }) ∷ []) e in
    let Cell = λ (ws : List Val). ‵ (cell_at full_share R.mir ws b o) in
    rewrite ! 3 Cell word refl $
    -- [the bytes; the room; what the fields own; the struct's cell; the open borrow, in three entries]
    first ! $ blocks ! $
    sets ! (of_opd ! (load ! (through ! refl (fld ! refl (stop !))) (look_in ! 3 (sub ! 0 refl (whole !))))) refl (tt, tt) $
    sets_last ! (agg ! (and_then ! (get ! refl) (and_then ! (get ! refl) (no_more !)))) refl (tt, (tt, (record { fits = are.1.0.1 }, tt))) $
    exec ! 𝓣.C 𝓣.Λ (env code.Mir.locals l) (after 1 (code.function).body) (at_ret _ (W.post y)) $
    sets ! (of_opd ! (get ! refl)) refl (tt, (tt, (record { fits = are.1.0.1 }, tt))) $
    rewrite ! 3 Cell (sym word) refl $
    use1 𝓛 (‵ (cells (mem u8) bs b' o')) (whole_in 𝓛 u8 bs b' o') $ move ! (1 ∷ 2 ∷ 3 ∷ []) $ fjoin3 ! $ move ! (2 ∷ 3 ∷ 4 ∷ 1 ∷ 0 ∷ []) $ group ! 5 $
    let way = back 𝓛 h us b o b' o' e small fits in let room : (length bs < 2 ^ 64) × (length bs * 1 < 2 ^ 63) = (omega arith, omega arith) in
    let rest : SProp 𝓤 = sem 𝓛 (Rest 𝓛 h us b o b' o') in let code = R.coded.code h in
    use1 𝓛 (later (some (λ (δ : GName). raw (Elements 𝓛 R u8 (with_bytes h) (named 0) κ q b o b' o' γ bs room rest way δ))))
    (lends_Elements 𝓛 R u8 (with_bytes h) (named 0) κ q b o b' o' γ bs room rest way code code) $ await ! tt $ pick ! (λ δ.
    let r : MutBor (List ℕ) = record { ref_ptr = (b', o'); ghost_name = δ; now = bs } in let Own = λ (k : ℕ). ‵ ((MutSlice (named 0) κ u8).own_val r (slice_val (b', o') k ∷ [])) in
    use1 𝓛 (Own (length bs) ⊛ ‵ (flft κ q) ⊛ ‵ (follows R (Array u8 0) γ δ (with_bytes h))) (id⊢ 𝓤 _) $ split3 ! $ rewrite ! 0 Own (sym asked) refl $
    returns ! (look_at ! 0 refl) $ free_all ! refl $ keep ! (0 ∷ 1 ∷ 2 ∷ []) $
    suffices ! _ (ends_at 𝓛 f.ended stayed c y (slice_val (b', o') n) r (tt, (tt, tt)) (tt, (tt, tt))) $
    nothing ! $ nothing ! $ fjoin ! $ nothing ! $ fjoin ! $ join ! $ nothing ! $ move ! (2 ∷ 0 ∷ []) $ join ! $ join ! $ frame ! $ says ! refl $ done !)))))))))
