-- `bytes` shows the bytes that a `&` to the block holds.
use Rattle.std.proofs.Common.{◌≡◌, ℕ, ◌+◌, ◌*◌, ◌^◌, List, [], ◌∷◌, length, refl, sym, ap, subst, arith, w64}
use base.Logic.{id⊢, never}
use base.Fml.{ftrue, fhide, flft}
use contract.Monad.{fact}
use contract.Running.{tables}
use mir.Syntax.{named}
use mir.Val.{Val}
use types.Kit.{‵, raw, ◌⊛◌, at_ret, ◌$◌, ◌∵◌, !, qed, move, keep, use1, split, join, fsplit, fjoin, feq_i, flt_l, flt_i, rewrite, suffices, frame, done}
use types.Part.{agg}
use types.Run.{enter, of_opd, load, look, stop, fld, first, blocks, exec, returns, and_then, no_more}
use types.ByLocal.{alloc_all, pass_all, free_all, look_at, get, through, sets, sets_last, env}
use denote.Exit.{yes}
use denote.RattleType.{owns}
use denote.Builtin.{u8, usize, RefOf}
use denote.Memory.{hidden_shr}
use denote.Opens.{unhide, hide}
use denote.Plain.{uint_vals, uint_Tells}
use denote.RawPtr.{Ptr, block_ptr, block_of, count_of, InBlock, in_a_block}
use denote.Ref.{ShrRef, shr_vals, shr_Tells}
use denote.Signature.{plain}
use denote.Slice.{slice_val, elements_shared}
use denote.Steps.{nothing, heard}
use denote.Struct.Lending.{lent_out}
use denote.Triple.Walked.{Stays, stay_dropped, walk_of, says, Goes-dropped, ends_at}
use Rattle.std.proofs.Words.{pointer_in, pointer_out}
use Rattle.std.proofs.raw_atomic.Walks.{proved}
use Rattle.std.proofs.VecSteps.Shapes.{after}
use Rattle.bv_ram.specs.Ownership.{block_lent}
use Rattle.bv_ram.specs.contracts.block.Block as C
use Rattle.bv_ram.specs.contracts.block.Block.bytes as f
use Rattle.bv_ram.proofs.Shown.{Fields, shows_start}
use Rattle.bv_ram.proofs.block.Block.bytes.Statement.{statement}
use Rattle.bv_ram.proofs.block.Block.bytes.Code as code

abbrev stayed : Stays f.ended.signature.params f.ended.kept
stayed = (stay_dropped (RefOf (0 ∷ []) tt (plain (λ _. C.the_row)) (λ _. tt)) yes, (stay_dropped (plain (λ _. usize)) yes, tt))

pub bytes_spec : {M : Type 1} → statement M
bytes_spec 𝓤 𝓛 𝓜 𝓡 wired =
    let c = f.clauses 𝓛 𝓜.mem 𝓡.returns in let W = walk_of 𝓛 f.ended stayed c in let 𝓣 = tables 𝓤 𝓛.H 𝓜 𝓡 𝓡.env in
    proved 𝓛 f.ended stayed c 𝓜 𝓡 (Goes-dropped 𝓛 1 (RefOf (0 ∷ []) tt (plain (λ _. C.the_row)) (λ _. tt)) yes (λ κs x w. refl), (Goes-dropped 𝓛 1 (plain (λ _. usize)) yes (λ κs x w. refl), tt))
    f.Key.name code.function (code.unfolded 𝓤 𝓛.H 𝓜 𝓡 wired)
    (λ κs. (shr_vals, (uint_vals w64, tt))) (λ κs. (shr_Tells (named 0) κs.0 C.the_row, (uint_Tells w64, tt))) (λ κs qs bounds a _ are.
    let κ = κs.0 in let b = a.0.ref_ptr.0 in let o = a.0.ref_ptr.1 in let h = a.0.now in
    let n = a.1.0 in let bs = h.bytes in let p = h.start in
    let words : List Val × (List Val × Unit {0}) = (shr_vals a.0, (uint_vals w64 n, tt)) in
    let y : W.Ghost = ((κs, qs, bounds, a, words), tt) in
    let Asked : Type 0 = n ≡ length bs in
    qed 𝓛 (((‵ (flft κ qs.0) ⊛ ‵ ftrue) ⊛ ‵ (owns (ShrRef (named 0) κ C.the_row ∷ usize ∷ []) a words)) ∷ raw (fact 𝓤 Asked) ∷ []) ∵
    move ! (1 ∷ []) $ heard ! Asked (λ asked. split ! $ split ! $ move ! (2 ∷ []) $ fsplit ! $ fsplit ! $ keep ! (1 ∷ 3 ∷ []) $
    -- [what the `&` holds; the token]
    enter ! _ _ _ _ _ $
    alloc_all ! (λ l. pass_all ! refl ((tt, tt), ((tt, record { fits = are.1.0.1 }), tt)) $
    use1 𝓛 (‵ (hidden_shr Fields κ (p, tt) b o) ⊛ ‵ (fhide (C.the_lent h (block_ptr b o) κ))) (lent_out 𝓛 C.struct C.the_codes C.the_heap C.the_lent κ h b o) $ split ! $
    move ! (1 ∷ []) $ unhide ! $
    in_a_block ! p (λ r. block_lent r h.room bs κ) (id⊢ 𝓤 (never 𝓤)) (λ b' o' e.
    fsplit ! $ fsplit ! $ flt_l ! (λ small. flt_l ! (λ within.
    rewrite ! 0 (λ (r : Ptr). ‵ (elements_shared u8 bs (block_of r) (count_of r) κ)) (sym e) refl $ hide ! $ move ! (1 ∷ 2 ∷ []) $
    -- [a `&` to the fields; the token; the bytes, shared]
    let inside : InBlock p = subst InBlock (sym e) tt in let at : ℕ × ℕ = (block_of p, count_of p) in
    first ! $ blocks ! $
    pointer_in ! tt p inside b (o + 0) (shows_start 𝓛 κ b o p) (λ q.
    sets ! (of_opd ! (load ! (through ! refl (fld ! refl (stop !))) (look ! 1 refl))) refl (tt, tt) $
    pointer_out ! tt p inside b (o + 0) $
    sets_last ! (agg ! (and_then ! (get ! refl) (and_then ! (get ! refl) (no_more !)))) refl (tt, (tt, (record { fits = are.1.0.1 }, tt))) $
    exec ! 𝓣.C 𝓣.Λ (env code.Mir.locals l) (after 1 (code.function).body) (at_ret _ (W.post y)) $
    sets ! (of_opd ! (get ! refl)) refl (tt, (tt, (record { fits = are.1.0.1 }, tt))) $
    returns ! (look_at ! 0 refl) $ free_all ! refl $ keep ! (2 ∷ 0 ∷ []) $
    suffices ! _ (ends_at 𝓛 f.ended stayed c y (slice_val at n) (record { ref_ptr = at; now = bs }) (tt, (tt, tt)) (tt, (tt, tt))) $ says ! refl $
    flt_i ! (length bs * 1) (2 ^ 63) (omega arith) $ flt_i ! (length bs) (2 ^ 64) (omega arith) $ fjoin ! $
    feq_i ! (List Val) (slice_val at n ∷ []) (slice_val at (length bs) ∷ []) (ap (λ k. slice_val at k ∷ []) asked) $ fjoin ! $ fjoin ! $
    nothing ! $ move ! (2 ∷ 0 ∷ []) $ join ! $ frame ! $ nothing ! $ nothing ! $ fjoin ! $ nothing ! $ fjoin ! $ done !)))))))
