-- The board does what the flat machine does: one operation, and then a run.
use Rattle.std.proofs.Common.{◌≡◌, ℕ, suc, ◌+◌, ◌*◌, ◌<◌, ◌≤◌, ◌⊎◌, inl, inr, Bool, List, [], ◌++◌, length, Some, slice_index_or, refl, sym, ap, subst, ◌∙◌, arith, append-nil}
use Rattle.std.specs.Prelude.{slice_get}
use Rattle.bas_ir.specs.declared.ir.Ir.{Ir}
use Rattle.bas_ir.specs.declared.op.Op.{Op}
use Rattle.bas_ir.specs.Places.{start_of, item_from}
use Rattle.bas_sem.specs.State.{State}
use Rattle.bv_run.specs.declared.report.Report.{Report}
use Rattle.bv_run.specs.Outcome.{Outcome}
use Rattle.bv_run.specs.Outcome as outcomes
use Rattle.bv_run.specs.Runs.{run, outcome_of, Ended, with_front}
use Rattle.bv_run.specs.Runs as runs
use Rattle.bv_run.proofs.RunLaws.{run-with_front, leads_run, Leads}
use Rattle.arm2_machine.specs.Machine.{Machine, arena_of}
use Rattle.arm2_machine.specs.Step.{board_step}
use Rattle.arm_core.specs.Core.{Core, IsAt, IsGood}
use Rattle.arm_core.proofs.Arena.{arena-is}
use Rattle.code_frag.specs.Demands.{Out, Post, Leaves, ToEnd, Owes}
use Rattle.code_frag.specs.Language.{Leave, items, size, is_flat}
use Rattle.code_frag.specs.Regions.{error_texts_start}
use Rattle.code_frag.specs.Runs.{Stands, IsCode, SameCode, Comes, Moved, EndsAt, Meets}
use Rattle.code_frag.proofs.Loaded.{HasEnded, ends_run}
use Rattle.code_frag.proofs.RowLaws.{row_leads}
use Rattle.code_frag.proofs.Rules.{call_then}
use Rattle.code_frag.proofs.Sound.{sound}
use Rattle.runtime_lib.specs.Entries.{HasErrorTexts, error_table}
use Rattle.runtime_lib.specs.Routines.{routines_count}
use Rattle.codegen.specs.Fitting.{CanGenerate}
use Rattle.codegen.specs.Operations.{op_code, item_label, raise_label}
use Rattle.codegen.specs.Outcomes.{Ends, Raises}
use Rattle.codegen.specs.Program.{op_place, op_size, named_at, branches_start, number_of_item, text_address, raiser, last_piece}
use Rattle.codegen.specs.StandsFor.{ItemTable, Site, IsSite, HasArena, IsText}
use Rattle.codegen.proofs.Arriving.{CodeAsks, CodeDoes}
use Rattle.codegen.proofs.OutputOps.{bytes-same}
use Rattle.codegen.proofs.StateLaws.{arena_kept}

-- a program's items of DATA in the image
abbrev pub table_of : Ir → ItemTable
table_of ir = record { address = (λ item. text_address ir (number_of_item ir item)); texts = ir.data_items }

-- what an operation at a place finds in the image
abbrev pub site_at : Ir → (ℕ → ℕ) → ℕ → Site
site_at ir code pc = record { bytes = code; branches = branches_start ir; items = length ir.starts; next = item_from ir (suc pc); table = table_of ir }

-- the code of a program is in a memory: each piece at its place, the library, the branches to items, and the texts
pub record Placed (ir : Ir) (code entry : ℕ → ℕ) (base : ℕ) : Type 0 where
  pub stands : (pc : ℕ) (x : Op) → slice_get ir.ops pc ≡ Some x → Stands (items (op_code (named_at ir pc x) x)) code entry (base + 4 * op_place ir pc)
  pub lies : (pc : ℕ) (x : Op) → slice_get ir.ops pc ≡ Some x → IsCode (base + 4 * op_place ir pc) (op_size x)
  pub next : (pc : ℕ) (x : Op) → slice_get ir.ops pc ≡ Some x → op_place ir (suc pc) ≡ op_place ir pc + op_size x
  pub last_stands : Stands (items last_piece) code entry (base + 4 * op_place ir (length ir.ops))
  pub last_lies : IsCode (base + 4 * op_place ir (length ir.ops)) (size last_piece)
  pub raise_stands : Stands (items raiser) code entry (entry raise_label)
  pub raise_lies : IsCode (entry raise_label) (size raiser)
  pub item : (item : ℕ) → item ≤ length ir.starts → entry (item_label item) ≡ base + 4 * op_place ir (start_of ir item)
  pub branch_stands : (item : ℕ) → item ≤ length ir.starts → Stands (items (Leave (item_label item))) code entry (branches_start ir + 4 * item)
  pub branch_lies : (item : ℕ) → item ≤ length ir.starts → IsCode (branches_start ir + 4 * item) 1
  pub sites : (pc : ℕ) (x : Op) → slice_get ir.ops pc ≡ Some x → IsSite (site_at ir code pc)
  pub meets : (label : ℕ) → label < routines_count → Meets code entry CodeAsks CodeDoes (label + 1)
  pub literals : (number : ℕ) → number < length ir.texts → IsText code (text_address ir number) (slice_index_or ir.texts number [])
  pub error_texts : HasErrorTexts code

-- ---- the board's run, after bytes that were written

-- what the board shows from a machine on
abbrev pub board_from : Machine → List ℕ → ℕ → Outcome
board_from m out steps = outcome_of (λ n. arena_of n.ram) (run board_step steps m out)

-- The board comes as far as the flat machine at a bound, in at least as many steps.
abbrev pub Follows : ℕ → Outcome → Machine → List ℕ → Type 0
Follows n (outcomes.Over out arena report) m before = (steps : ℕ) × (board_from m before steps ≡ outcomes.Over out arena report)
Follows n (outcomes.Going out arena) m before = (steps : ℕ) × (n ≤ steps) × (board_from m before steps ≡ outcomes.Going out arena)
Follows n (outcomes.Broken out arena kind address) m before = ⊥

-- a row of steps before it
pub later : (n : ℕ) (o : Outcome) (m last : Machine) (before bytes : List ℕ) → Leads board_step m last bytes → Follows n o last (before ++ bytes) → Follows (suc n) o m before
later n (outcomes.Over out arena report) m last before bytes leads f = (leads.steps + f.0, ap (outcome_of (λ k. arena_of k.ram)) (leads_run board_step m last bytes leads f.0 before) ∙ f.1)
later n (outcomes.Going out arena) m last before bytes leads f =
    (leads.steps + f.0, (let some = leads.some in let few = f.1 in omega (arith, some, few)), ap (outcome_of (λ k. arena_of k.ram)) (leads_run board_step m last bytes leads f.0 before) ∙ f.2)
later n (outcomes.Broken out arena kind address) m last before bytes leads f = f

-- the end, after a row of steps
ended : (n : ℕ) (m : Machine) (before out arena : List ℕ) (end : Core) (bytes : List ℕ) (steps : ℕ) (report : Report) → HasEnded m end bytes steps report → end.out ≡ out → end.out ≡ before ++ bytes → HasArena end.mem arena
    → Follows n (outcomes.Over out arena report) m before
ended n m before out arena end bytes steps report e same written has =
    let whole : run board_step (steps + 1) m before ≡ Ended e.last (before ++ bytes) (runs.Over report) =
    ap (run board_step (steps + 1) m) (sym (append-nil before)) ∙ run-with_front board_step (steps + 1) m before [] ∙ ap (with_front before) e.run in (
      steps + 1,
      ap (outcome_of (λ k. arena_of k.ram)) whole
          ∙ (λ i. outcomes.Over ((sym written ∙ same) i) ((ap arena_of e.ram ∙ arena-is end e.pc e.machine arena e.is has.count has.each) i) report),
    )

module _ (ir : Ir) (code entry : ℕ → ℕ) (base : ℕ) (can : CanGenerate ir) (placed : Placed ir code entry base) where
  -- ---- an error

  -- the texts of errors are in memory
  has_texts : (s : Core) → SameCode code s.mem → HasErrorTexts s.mem
  has_texts s same =
      bytes-same (length error_table) error_texts_start s.mem code (λ b low high. same.kept b (omega (arith, low)) (omega (arith, high))) ∙ placed.error_texts

  raiser_owes : (report : Report) (st : State) (o : Out) (s : Core) → Raises report st o s → IsGood s → SameCode code s.mem → Owes CodeAsks CodeDoes raiser (Ends report st) s
  raiser_owes report st o s r good same =
      call_then {e = 9} (λ k low. record {
        can_write = record { base = r.can_write.base; aligned = r.can_write.aligned; room = r.can_write.room; inside = r.can_write.inside; column = r.can_write.column };
        texts = has_texts s same;
        error = r.error;
        line = r.line;
      })
      (λ k t low good_t d. absurd (let e = d.ends in cc e))
      (λ k l t low good_t d. record {
        leaves = d.ends ∙ ap (λ x. Leaves (ToEnd x)) (sym r.reports);
        out = d.out ∙ sym r.out;
        has_arena = arena_kept s.mem t.mem st.arena r.has_arena (λ a low high. d.mem a (inl (omega (arith, high))));
      })

  -- the run ends, by itself or by an error
  pub over_follows : (n : ℕ) (place next : ℕ) (flat : Bool) (Q : Post) (report : Report) (st : State) (s : Core) (m : Machine) (before : List ℕ) (x : EndsAt code entry flat Q place next s m) → s.out ≡ before
      → (Ends report st x.out x.end ⊎ Raises report st x.out x.end) → Follows n (outcomes.Over st.output st.arena report) m before
  over_follows n place next flat Q report st s m before x is (inl e) =
      ended n m before st.output st.arena x.end x.bytes (length x.places) report (ends_run code entry flat Q place next s m x report e.leaves) e.out (x.writes ∙ ap (λ l. l ++ x.bytes) is) e.has_arena
  over_follows n place next flat Q report st s m before x is (inr r) =
      let there : IsAt x.end (entry raise_label) x.machine = subst (λ o. Comes entry o next x.end x.machine) r.leaves x.comes in
      let y = sound code entry CodeAsks CodeDoes raiser refl (placed.meets 8 (omega arith), tt) (Ends report st) (entry raise_label) x.end x.machine placed.raise_lies placed.raise_stands x.same there
      (raiser_owes report st x.out x.end r there.good x.same).by in
      let e = y.holds in
      let some : 0 < length x.places = subst (λ o. Moved o x.places) r.leaves x.moved in
      let f = ended n x.machine (before ++ x.bytes) st.output st.arena y.end y.bytes (length y.places) report (ends_run code entry (is_flat raiser) (Ends report st) (entry raise_label) _ x.end x.machine y report e.leaves)
      e.out (y.writes ∙ ap (λ l. l ++ y.bytes) (x.writes ∙ ap (λ l. l ++ x.bytes) is)) e.has_arena in
      sooner n (later n (outcomes.Over st.output st.arena report) m x.machine before x.bytes (row_leads x.places m x.machine x.bytes x.row some) f)
    where
      sooner : (n : ℕ) → Follows (suc n) (outcomes.Over st.output st.arena report) m before → Follows n (outcomes.Over st.output st.arena report) m before
      sooner n f = f
