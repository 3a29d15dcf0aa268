-- What pieces of code take of the symbols that spell them out: names and texts, bytes of machine code, pending values.
use Rattle.std.proofs.Common.{◌≡◌, ℕ, ◌+◌, ◌*◌, ◌<◌, ◌≤◌, List, [], ◌∷◌, ◌++◌, refl, length, arith, length-append}
use Rattle.bas_ast.specs.declared.keywords.Keyword.TheVariants as word
use Rattle.bas_ast.specs.declared.program.Prog.{Prog}
use Rattle.bas_ast.specs.declared.terminals.Terminal.{Terminal}
use Rattle.bas_ast.specs.declared.terminals.Terminal.TheVariants as t
use Rattle.bas_ast.specs.WellFormed.{literals, weight}
use Rattle.bas_ir.specs.declared.op.Op.{Op}
use Rattle.bas_ir.specs.declared.op.Op.TheVariants as o
use Rattle.bas_ir.specs.WellFormed.{most_code, IsThere}
use Rattle.ir_build.specs.Code.{flat_code}

-- How many bytes of machine code a terminal is good for: 96, but for a literal 8 less, which its text takes; nothing for DATA and
-- for tails.
abbrev pub worth : Terminal → ℕ
worth (t.Literal n) = 88
worth (t.Keyword word.Data) = 0
worth (t.Tail n) = 0
worth _ = 96

abbrev pub worth_all : List Terminal → ℕ
worth_all [] = 0
worth_all (c ∷ a) = worth c + worth_all a

-- the greatest number of bytes of machine code of operations
abbrev pub cost : List Op → ℕ
cost [] = 0
cost (op ∷ ops) = most_code op + cost ops

-- the number of values that operations push in place of none
abbrev pub push_of : Op → ℕ
push_of (o.Push value) = 1
push_of o.PushColumn = 1
push_of (o.PushResident index) = 1
push_of (o.PushInteger name line) = 1
push_of (o.PushText number) = 1
push_of (o.ReadNumber line) = 1
push_of _ = 0

abbrev pub pushes : List Op → ℕ
pushes [] = 0
pushes (op ∷ ops) = push_of op + pushes ops

pub cost_append : (xs ys : List Op) → cost (xs ++ ys) ≡ cost xs + cost ys
cost_append [] ys = omega arith
cost_append (x ∷ xs) ys = omega (arith, cost_append xs ys)

pub pushes_append : (xs ys : List Op) → pushes (xs ++ ys) ≡ pushes xs + pushes ys
pushes_append [] ys = omega arith
pushes_append (x ∷ xs) ys = omega (arith, pushes_append xs ys)

pub worth_append : (a b : List Terminal) → worth_all (a ++ b) ≡ worth_all a + worth_all b
worth_append [] b = omega arith
worth_append (c ∷ a) b = omega (arith, worth_append a b)

-- what terminals are worth, by their weight and their literals
pub worth_is : (a : List Terminal) → worth_all a + 8 * length (literals a) ≡ 96 * weight a
worth_is [] = omega arith
worth_is (t.Literal n ∷ a) = omega (arith, worth_is a)
worth_is (t.Keyword word.Data ∷ a) = omega (arith, worth_is a)
worth_is (t.Tail n ∷ a) = omega (arith, worth_is a)
worth_is (_ ∷ a) = omega (arith, worth_is a)

module _ (prog : Prog) where
  -- a terminal's name or text is there
  abbrev pub IsKnown : Terminal → Type 0
  IsKnown (t.IntName n) = n < length prog.names
  IsKnown (t.Literal n) = n < length prog.texts
  IsKnown _ = Unit {0}

  abbrev pub AllKnown : List Terminal → Type 0
  AllKnown [] = Unit {0}
  AllKnown (c ∷ a) = IsKnown c × AllKnown a

  pub front_known : (a b : List Terminal) → AllKnown (a ++ b) → AllKnown a
  front_known [] b known = tt
  front_known (c ∷ a) b known = (known.0, front_known a b known.1)

  pub back_known : (a b : List Terminal) → AllKnown (a ++ b) → AllKnown b
  back_known [] b known = known
  back_known (c ∷ a) b known = back_known a b known.1

  abbrev pub AllThere : List Op → Type 0
  AllThere [] = Unit {0}
  AllThere (op ∷ ops) = IsThere (flat_code prog) op × AllThere ops

  pub append_there : (xs ys : List Op) → AllThere xs → AllThere ys → AllThere (xs ++ ys)
  append_there [] ys a b = b
  append_there (x ∷ xs) ys a b = (a.0, append_there xs ys a.1 b)

  -- Code that these terminals spell out names what is there. With this spare it costs no more than they are worth with this debt, and
  -- it pushes no more values than there are terminals.
  pub record Fits (debt spare : ℕ) (a : List Terminal) (ops : List Op) : Type 0 where
    pub there : AllThere ops
    pub cheap : cost ops + spare ≤ worth_all a + debt
    pub low : pushes ops ≤ length a

module _ {prog : Prog} where
  -- two pieces, and operations between them
  pub around : {d s d' s' D S : ℕ} {a b : List Terminal} {xs ys : List Op} (ops : List Op) → Fits prog d s a xs → AllThere prog ops → pushes ops ≡ 0 → Fits prog d' s' b ys
      → cost ops + (S + (d + d')) ≤ D + (s + s') → Fits prog D S (a ++ b) (xs ++ (ops ++ ys))
  around {d} {s} {d'} {s'} {D} {S} {a} {b} {xs} {ys} ops one there none two pays = record {
    there = append_there prog xs (ops ++ ys) one.there (append_there prog ops ys there two.there);
    cheap = omega (arith, one.cheap, two.cheap, pays, cost_append xs (ops ++ ys), cost_append ops ys, worth_append a b);
    low = omega (arith, one.low, two.low, none, pushes_append xs (ops ++ ys), pushes_append ops ys, length-append a b);
  }

  -- two pieces
  pub beside : {d s d' s' D S : ℕ} {a b : List Terminal} {xs ys : List Op} → Fits prog d s a xs → Fits prog d' s' b ys → S + (d + d') ≤ D + (s + s') → Fits prog D S (a ++ b) (xs ++ ys)
  beside {d} {s} {d'} {s'} {D} {S} one two pays = around [] one tt refl two (omega (arith, pays))

  -- a piece, and operations after it
  pub then_ops : {d s D S : ℕ} {a : List Terminal} {xs : List Op} (ops : List Op) → Fits prog d s a xs → AllThere prog ops → pushes ops ≡ 0 → cost ops + (S + d) ≤ D + s → Fits prog D S a (xs ++ ops)
  then_ops {d} {s} {D} {S} {a} {xs} ops one there none pays = record {
    there = append_there prog xs ops one.there there;
    cheap = omega (arith, one.cheap, pays, cost_append xs ops);
    low = omega (arith, one.low, none, pushes_append xs ops);
  }

  -- a piece with a terminal before it
  pub after : {d s D S : ℕ} {a : List Terminal} {xs : List Op} (c : Terminal) → Fits prog d s a xs → S + d ≤ D + (s + worth c) → Fits prog D S (c ∷ a) xs
  after {d} {s} {D} {S} {a} {xs} c one pays = record {
    there = one.there;
    cheap = omega (arith, one.cheap, pays);
    low = omega (arith, one.low);
  }

  -- a piece with terminals after it
  pub before : {d s D S : ℕ} {a : List Terminal} {xs : List Op} (b : List Terminal) → Fits prog d s a xs → S + d ≤ D + s → Fits prog D S (a ++ b) xs
  before {d} {s} {D} {S} {a} {xs} b one pays = record {
    there = one.there;
    cheap = omega (arith, one.cheap, pays, worth_append a b);
    low = omega (arith, one.low, length-append a b);
  }

  -- a piece with a terminal before it, and after it operations that push at most one value
  pub within : {d s D S : ℕ} {a : List Terminal} {xs : List Op} (c : Terminal) (ops : List Op) → Fits prog d s a xs → AllThere prog ops → pushes ops ≤ 1 → cost ops + (S + d) ≤ D + (s + worth c)
      → Fits prog D S (c ∷ a) (xs ++ ops)
  within {d} {s} {D} {S} {a} {xs} c ops one there few pays = record {
    there = append_there prog xs ops one.there there;
    cheap = omega (arith, one.cheap, pays, cost_append xs ops);
    low = omega (arith, one.low, few, pushes_append xs ops);
  }

  -- the end of a run, spelled out by a terminal that is worth something
  pub stops : (c : Terminal) (a : List Terminal) → 88 ≤ worth c → Fits prog 0 64 (c ∷ a) (o.End ∷ [])
  stops c a worthy = record { there = (tt, tt); cheap = omega (arith, worthy); low = omega arith }

  -- the same, with the terminal between others
  pub stops_between : (a : List Terminal) (c : Terminal) (b : List Terminal) → 88 ≤ worth c → Fits prog 0 64 (a ++ c ∷ b) (o.End ∷ [])
  stops_between a c b worthy = record { there = (tt, tt); cheap = omega (arith, worthy, worth_append a (c ∷ b)); low = omega arith }
