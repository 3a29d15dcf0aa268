use Rattle.std.proofs.Common.{◌≡◌, ◌+◌, refl, sym, subst}
use Rattle.bas_ast.specs.Structures.{bound}
use Rattle.bas_sem.specs.Places.{end_of}
use Rattle.ir_build.specs.Ends.{AreEnds}
use Rattle.ir_build.proofs.EndTables.{same_match, end_added}
use Rattle.ir_build.proofs.ends.Ends.add_item.Goals as goal

pub returns-clause-ends : goal.returns-clause-ends
returns-clause-ends c = λ line rest are.
    let next : c.in_ok-next.next ≡ c.args.place + 1 = c.in_ok-next.ensures in
    end_added c.args.self.now _ line c.args.item.now rest c.args.place c.end_of-end.result are
    (subst (λ n. c.end_of-end.result ≡ end_of (bound c.args.item.now) rest n) next (c.end_of-end.ensures rest (subst (AreEnds c.args.self.now rest) (sym next) are)))
    c.in_ok-push.ensures.ok
    (record {
      while_ends = same_match _ _ _ _ _ _ c.in_ok-match_end.ensures c.while_role.ensures next;
      if_ends = same_match _ _ _ _ _ _ c.in_ok-match_end-2.ensures c.if_role.ensures next;
      else_ends = same_match _ _ _ _ _ _ c.in_ok-match_end-3.ensures c.else_role.ensures next;
      case_ends = same_match _ _ _ _ _ _ c.in_ok-match_end-4.ensures c.case_role.ensures next;
      when_ends = same_match _ _ _ _ _ _ c.in_ok-match_end-5.ensures c.when_role.ensures next;
      total = refl;
    })
