-- `push` writes the first byte of the room, and the bytes have one more.
use Rattle.std.proofs.Common.{◌≡◌, ℕ, suc, ◌+◌, ◌-◌, ◌^◌, ◌<◌, List, [], ◌∷◌, ◌++◌, length, length-append, refl, sym, ap, ◌∙◌, arith, w8, w64}
use base.Fraction.{full_share}
use base.Logic.{id⊢}
use base.Fml.{ftrue, flft, froom}
use contract.Monad.{fact}
use contract.Running.{tables}
use mir.Syntax.{ty_int, named}
use mir.Val.{Val, vunit}
use types.Kit.{‵, raw, ◌⊛◌, at_ret, ◌$◌, ◌∵◌, !, qed, move, keep, use1, use2, split, join, fsplit, fsplit3, fjoin, fjoin3, feq_i, flt_l, flt_i, rewrite, suffices, frame, done}
use types.Part.{whole, sub, look_in}
use types.Run.{enter, of_opd, bin, unit_lit, load, init, stop, fld, assigns_last, first, blocks, exec, returns}
use types.ByLocal.{alloc_all, pass_all, free_all, look_at, get, through, sets, env}
use denote.Exit.{yes}
use denote.RattleType.{owns}
use denote.Laws.{shows}
use denote.Builtin.{u8, usize}
use denote.Memory.{cell_at, part_at}
use denote.Plain.{uint_in, uint_vals, uint_Tells}
use denote.RawPtr.{Ptr, in_a_block}
use denote.RawPtr.Bytes.{bytes, bytes_glue}
use denote.Ref.{MutRef, mut_vals, mut_Tells}
use denote.Signature.{plain}
use denote.Steps.{nothing, opens, closes, peeks, heard}
use denote.Triple.Walked.{Stays, stay_ref, stay_dropped, walk_of, says, Goes-ref, Goes-dropped, ends_at}
use Rattle.std.proofs.raw_atomic.Walks.{proved}
use Rattle.std.proofs.VecSteps.Shapes.{after}
use Rattle.bv_ram.specs.Ownership.{bytes_type, block_owns}
use Rattle.bv_ram.specs.contracts.block.Block.{the_row as R}
use Rattle.bv_ram.specs.contracts.block.Block.push as f
use Rattle.bv_ram.proofs.block.Block.TheLaws.{lowers}
use Rattle.bv_ram.proofs.block.Block.push.Statement.{statement}
use Rattle.bv_ram.proofs.block.Block.push.Code as code

abbrev stayed : Stays f.ended.signature.params f.ended.kept
stayed = (stay_ref (0 ∷ []) tt (plain (λ _. R)), (stay_dropped (plain (λ _. usize)) yes, (stay_dropped (plain (λ _. u8)) yes, tt)))

pub push_spec : {M : Type 1} → statement M
push_spec 𝓤 𝓛 𝓜 𝓡 wired =
    let c = f.clauses 𝓛 𝓜.mem 𝓡.returns in let W = walk_of 𝓛 f.ended stayed c in let 𝓣 = tables 𝓤 𝓛.H 𝓜 𝓡 𝓡.env in
    proved 𝓛 f.ended stayed c 𝓜 𝓡 (Goes-ref 𝓛 1 0 tt (plain (λ _. R)), (Goes-dropped 𝓛 1 (plain (λ _. usize)) yes (λ κs x w. refl), (Goes-dropped 𝓛 1 (plain (λ _. u8)) yes (λ κs x w. refl), tt)))
    f.Key.name code.function (code.unfolded 𝓤 𝓛.H 𝓜 𝓡 wired)
    (λ κs. (mut_vals, (uint_vals w64, (uint_vals w8, tt)))) (λ κs. (mut_Tells (named 0) κs.0 R, (uint_Tells w64, (uint_Tells w8, tt)))) (λ κs qs bounds a _ are.
    let b = a.0.ref_ptr.0 in let o = a.0.ref_ptr.1 in let h = a.0.now in let vs = mut_vals a.0 in
    let at = a.1.0 in let x = a.1.1.0 in let bs = h.bytes in
    let words : List Val × (List Val × (List Val × Unit {0})) = (vs, (uint_vals w64 at, (uint_vals w8 x, tt))) in
    let y : W.Ghost = ((κs, qs, bounds, a, words), tt) in
    let Asked : Type 0 = (at ≡ length bs) × (at < h.room) in
    qed 𝓛 (((‵ (flft κs.0 qs.0) ⊛ ‵ ftrue) ⊛ ‵ (owns (MutRef (named 0) κs.0 R ∷ usize ∷ u8 ∷ []) a words)) ∷ raw (fact 𝓤 Asked) ∷ []) ∵
    move ! (1 ∷ []) $ heard ! Asked (λ asked. split ! $ split ! $ move ! (2 ∷ []) $ fsplit ! $ fsplit3 ! $ keep ! (1 ∷ 2 ∷ 4 ∷ []) $
    -- [what self is seen at; its borrow; the token]
    enter ! _ _ _ _ _ $
    alloc_all ! (λ l. pass_all ! refl ((tt, tt), ((tt, record { fits = are.1.0.1 }), ((tt, record { fits = are.1.1.0.1 }), tt))) $
    opens ! tt R b o (λ us.
    move ! (1 ∷ []) $ peeks ! R _ (shows 𝓛 R) h us (λ is. fsplit ! $ move ! (1 ∷ []) $
    in_a_block ! h.start (λ p. block_owns p h.room bs) (id⊢ 𝓤 _) (λ b' o' e.
    fsplit ! $ fsplit ! $ flt_l ! (λ small. flt_l ! (λ within. fsplit ! $ move ! (1 ∷ []) $
    let word = lowers.val_is h us is ∙ ap (λ (p : Ptr). lowers.lowered (record h { start = p }) ∷ []) e in
    let Cell = λ (ws : List Val). ‵ (cell_at full_share R.mir ws b o) in
    rewrite ! 3 Cell word refl $
    -- [the room; the bytes; what the fields own; the struct's cell; the open borrow, in three entries]
    let left : ℕ = h.room - suc (length bs) in let one_more : h.room - length bs ≡ suc left = omega (arith, asked.0, asked.1) in
    let here : o' + length bs ≡ at + o' = omega (arith, asked.0) in
    rewrite ! 0 (λ (k : ℕ). ‵ (froom (bytes_type k) b' (o' + length bs))) one_more refl $
    use1 𝓛 (‵ (froom (ty_int w8) b' (o' + length bs)) ⊛ ‵ (froom (bytes_type left) b' (o' + length bs + 1))) (𝓛.laws.room_uncons (ty_int w8) left b' (o' + length bs)) $ split ! $
    rewrite ! 0 (λ (k : ℕ). ‵ (froom (ty_int w8) b' k)) here refl $
    -- [the room of the byte; the rest of the room; ..]
    first ! $ blocks ! $
    sets ! (of_opd ! (load ! (through ! refl (fld ! refl (stop !))) (look_in ! 4 (sub ! 0 refl (whole !))))) refl (tt, tt) $
    sets ! (bin ! (get ! refl) (get ! refl) tt) refl (tt, tt) $
    assigns_last ! (of_opd ! (get ! refl)) (through ! refl (stop !)) (init ! 0 refl (tt, record { fits = are.1.1.0.1 })) $
    exec ! 𝓣.C 𝓣.Λ (env code.Mir.locals l) (after 1 (code.function).body) (at_ret _ (W.post y)) $
    sets ! (of_opd ! (unit_lit !)) refl (tt, tt) $
    use1 𝓛 (‵ (part_at u8 full_share x b' (at + o'))) (uint_in 𝓛 full_share w8 x b' (at + o')) $
    rewrite ! 0 (λ (k : ℕ). ‵ (part_at u8 full_share x b' k)) (sym here) refl $ nothing ! $ move ! (1 ∷ 0 ∷ []) $ fjoin ! $
    let written : List ℕ = bs ++ x ∷ [] in let longer : length written ≡ suc (length bs) = length-append bs (x ∷ []) ∙ omega arith in
    move ! (2 ∷ 0 ∷ []) $ use2 𝓛 (‵ (bytes full_share written b' o')) (bytes_glue 𝓛 full_share bs (x ∷ []) b' o') $ move ! (1 ∷ []) $
    let rest : (left, o' + length bs + 1) ≡ (h.room - length written, o' + length written) = λ i. ((let r : left ≡ h.room - length written = omega (arith, longer) in r) i, (let r : o' + length bs + 1 ≡ o' + length written = omega (arith, longer) in r) i) in
    rewrite ! 0 (λ (u : ℕ × ℕ). ‵ (froom (bytes_type u.0) b' u.1)) rest refl $ move ! (1 ∷ 0 ∷ []) $ fjoin ! $
    flt_i ! (length written) (suc h.room) (omega (arith, longer, asked.0, asked.1)) $ flt_i ! h.room (2 ^ 63) small $ fjoin ! $ fjoin ! $
    let new = record h { bytes = written } in
    rewrite ! 0 (λ (p : Ptr). ‵ (block_owns p h.room written)) (sym e) refl $ rewrite ! 2 Cell (sym word) refl $
    move ! (1 ∷ []) $ fjoin ! $ move ! (1 ∷ []) $ closes ! tt R new us b o $
    returns ! (look_at ! 0 refl) $ free_all ! refl $ keep ! (0 ∷ 1 ∷ 2 ∷ []) $
    suffices ! _ (ends_at 𝓛 f.ended stayed c y vunit tt (new, (tt, (tt, tt))) (tt, (tt, (tt, tt)))) $ says ! (refl, refl, refl) $
    nothing ! $ move ! (3 ∷ 0 ∷ []) $ join ! $ frame ! $ feq_i ! (List Val) vs vs refl $ fjoin3 ! $
    nothing ! $ nothing ! $ fjoin ! $ nothing ! $ fjoin ! $ move ! (1 ∷ 0 ∷ []) $ fjoin ! $ feq_i ! (List Val) (vunit ∷ []) (vunit ∷ []) refl $ move ! (1 ∷ 0 ∷ []) $ done !))))))))
