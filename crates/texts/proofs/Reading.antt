-- A reader of values, items and members, a device of the proofs. It reads what the grammar has and is free on all
-- else: null is told by its first byte, a number is the longest run of bytes that numbers have. Assumes nothing.
use mathlib.Core.Bool.{true, false, cond}
use mathlib.Core.List.{List, []}
use Prim.Native.Nat.{ℕ, zero, suc}
use lib.Dec.{eqb}
use Rattle.texts.specs.Rfc8259.{Tree, Trees, Fields}
use Rattle.texts.specs.Single.{is_numeric}
use Rattle.texts.proofs.Spaces.{skip}
use Rattle.texts.proofs.Numbers.{run, past}
use Rattle.texts.proofs.Strings.{hd, tl, chars_at}

-- a value and what is behind it; or a closing bracket where a first item may stand, and what is behind that
pub data Got : Type 0 where
  got : Tree → List ℕ → Got
  shut : List ℕ → Got

-- an item and those behind it, none where the bracket closes
abbrev pub then_items : (List ℕ → Trees × List ℕ) → Got → Trees × List ℕ
then_items items (Got.got v x) = (Trees.item v (items (skip x)).0, (items (skip x)).1)
then_items items (Got.shut x) = (Trees.no_trees, x)

-- a member whose name has the code units u, and those behind it
abbrev pub then_members : (List ℕ → Fields × List ℕ) → List ℕ → Got → Fields × List ℕ
then_members members u (Got.got v x) = (Fields.field u v (members (skip x)).0, (members (skip x)).1)
then_members members u (Got.shut x) = (Fields.no_fields, x)

-- n bounds the depth and the length of what is read; the text begins with no white space
unfoldable mutual
  pub value_at : ℕ → List ℕ → Got
  value_at zero s = Got.shut []
  value_at (suc n) s =
      cond (is_numeric (hd s)) (Got.got (Tree.number (run s)) (past s))
      (cond (eqb (hd s) 34) (let p = chars_at n (tl s) in Got.got (Tree.string p.0) p.1)
      (cond (eqb (hd s) 91)
      (let p = then_items (λ x. items_at n x) (value_at n (skip (tl s))) in Got.got (Tree.array p.0) p.1)
      (cond (eqb (hd s) 123) (let p = members_at n (skip (tl s)) in Got.got (Tree.object p.0) p.1)
      (cond (eqb (hd s) 93) (Got.shut (tl s))
      (cond (eqb (hd s) 110) (Got.got Tree.null (tl (tl (tl (tl s)))))
      (cond (eqb (hd s) 116) (Got.got (Tree.bool true) (tl (tl (tl (tl s)))))
      (Got.got (Tree.bool false) (tl (tl (tl (tl (tl s))))))))))))

  -- what follows an array's first item
  pub items_at : ℕ → List ℕ → Trees × List ℕ
  items_at zero s = (Trees.no_trees, [])
  items_at (suc n) s =
      cond (eqb (hd s) 93) (Trees.no_trees, tl s) (then_items (λ x. items_at n x) (value_at n (skip (tl s))))

  -- what follows an object's opening brace, or its first member: a comma is passed over if there is one
  pub members_at : ℕ → List ℕ → Fields × List ℕ
  members_at zero s = (Fields.no_fields, [])
  members_at (suc n) s =
      cond (eqb (hd s) 125) (Fields.no_fields, tl s)
      (let z = cond (eqb (hd s) 44) (skip (tl s)) s in
      let p = chars_at n (tl z) in
      then_members (λ x. members_at n x) p.0 (value_at n (skip (tl (skip p.1)))))
