-- The reader of proofs/Reading.antt reads what the grammar has: one induction over a derivation, with one lemma for each
-- rule of the grammar. Assumes nothing.
use mathlib.Core.Path.{◌≡◌, refl, ap, ◌∙◌}
use mathlib.Core.Bool.{true, false}
use mathlib.Core.List.{List, [], ◌∷◌, ◌++◌, append_assoc}
use Prim.Native.Nat.{ℕ, zero, suc, ◌+◌, ◌≤◌}
use native.Mathlib.Omega.{arith}
use lib.Dec.{T}
use Rattle.texts.specs.Rfc8259.{Tree, Trees, Fields, Ws, Token, Number, Str, Value, Items, Members}
use Rattle.texts.specs.Single.{no_numeric, no_space, stops}
use Rattle.texts.proofs.Spaces.{
  skip,
  skip_byte,
  skip_ws,
  skip_none,
  Opened,
  opened,
  token_apart,
  ends,
  apart_ends,
}
use Rattle.texts.proofs.Numbers.{Numeric, Led, of_number, run_number, past_number}
use Rattle.texts.proofs.Strings.{tl, chars_at, chars_size, read_chars}
use Rattle.texts.proofs.Reading.{Got, then_items, then_members, value_at, items_at, members_at}

-- ---- What is read of a text of the grammar, with the steps that the reader needs. The white space that the text ends
-- in is left unread: it is `space`.

-- what is behind a value, without the white space that it may take
abbrev pub behind : Tree → List ℕ → List ℕ
behind Tree.null r = r
behind (Tree.bool b) r = r
behind (Tree.number t) r = r
behind (Tree.string u) r = r
behind (Tree.array vs) r = skip r
behind (Tree.object fs) r = skip r

pub record ReadsValue (t : List ℕ) (v : Tree) : Type 0 where
  pub steps : ℕ
  pub space : List ℕ
  pub blank : Ws space
  pub reads : (r : List ℕ) → T (ends v r) → (n : ℕ) → steps ≤ n → value_at n (skip (t ++ r)) ≡ Got.got v (space ++ r)
  pub left : (r : List ℕ) → T (stops v r) → behind v (space ++ r) ≡ r

record ReadsItems (t : List ℕ) (vs : Trees) : Type 0 where
  steps : ℕ
  space : List ℕ
  blank : Ws space
  reads : (r : List ℕ) (n : ℕ) → steps ≤ n → items_at n (skip (t ++ r)) ≡ (vs, space ++ r)
  apart : (r : List ℕ) → T (no_numeric (t ++ r))

record ReadsMembers (t : List ℕ) (fs : Fields) : Type 0 where
  steps : ℕ
  space : List ℕ
  blank : Ws space
  reads : (r : List ℕ) (n : ℕ) → steps ≤ n → members_at n (skip (t ++ r)) ≡ (fs, space ++ r)
  apart : (r : List ℕ) → T (no_numeric (t ++ r))

-- ---- one step of the reader at each first byte
null_step : (r : List ℕ) (n : ℕ) → 1 ≤ n → value_at n (skip (110 ∷ 117 ∷ 108 ∷ 108 ∷ r)) ≡ Got.got Tree.null r
unfolding value_at skip
null_step r zero l = absurd (omega arith)
null_step r (suc n) l = refl

true_step : (r : List ℕ) (n : ℕ) → 1 ≤ n
    → value_at n (skip (116 ∷ 114 ∷ 117 ∷ 101 ∷ r)) ≡ Got.got (Tree.bool true) r
unfolding value_at skip
true_step r zero l = absurd (omega arith)
true_step r (suc n) l = refl

false_step : (r : List ℕ) (n : ℕ) → 1 ≤ n
    → value_at n (skip (102 ∷ 97 ∷ 108 ∷ 115 ∷ 101 ∷ r)) ≡ Got.got (Tree.bool false) r
unfolding value_at skip
false_step r zero l = absurd (omega arith)
false_step r (suc n) l = refl

number_step : {t : List ℕ} → Led t → (r : List ℕ) → T (no_numeric r) → (n : ℕ) → 1 ≤ n
    → value_at n (skip (t ++ r)) ≡ Got.got (Tree.number t) r
unfolding value_at
number_step (Led.led g h p) r e zero l = absurd (omega arith)
number_step (Led.led {b} {t} g h p) r e (suc n) l =
    rw (skip_byte b (t ++ r) g, h, run_number (Numeric.more h p) r e, past_number (Numeric.more h p) r e)

-- a string: its opening mark, and what the reader of characters makes of the rest
pub record Quoted (s u r : List ℕ) (m : ℕ) : Type 0 where
  pub inside : List ℕ
  pub first : s ≡ 34 ∷ inside
  pub reads : (n : ℕ) → m ≤ n → chars_at n inside ≡ (u, r)

pub str_size : {t u : List ℕ} → Str t u → ℕ
str_size (Str.quoted d) = chars_size d

pub quoted : {t u : List ℕ} (d : Str t u) (r : List ℕ) → Quoted (t ++ r) u r (str_size d)
unfolding str_size
quoted (Str.quoted {t} d) r =
    record {
      inside = t ++ (34 ∷ r);
      first = ap (34 ∷◌) (append_assoc t (34 ∷ []) r);
      reads = λ n l. read_chars d r n l;
    }

string_step : {s u r : List ℕ} {m : ℕ} → Quoted s u r m → (n : ℕ) → suc m ≤ n
    → value_at n (skip s) ≡ Got.got (Tree.string u) r
unfolding value_at
string_step q zero l = absurd (omega arith)
string_step q (suc n) l = rw (q.first, skip_byte 34 q.inside refl, q.reads n (omega arith))

-- brackets
module _ {a : List ℕ} (x : List ℕ) where
  shut_step : (o : Opened 93 a) (n : ℕ) → 1 ≤ n → value_at n (skip (a ++ x)) ≡ Got.shut (o.space ++ x)
  unfolding value_at
  shut_step o zero l = absurd (omega arith)
  shut_step o (suc n) l = rw (o.first x)

  array_step : {vs : Trees} {y : List ℕ} {m : ℕ} → Opened 91 a
      → ((n : ℕ) → m ≤ n → then_items (λ z. items_at n z) (value_at n (skip x)) ≡ (vs, y))
      → (n : ℕ) → suc m ≤ n → value_at n (skip (a ++ x)) ≡ Got.got (Tree.array vs) y
  unfolding value_at
  array_step o f zero l = absurd (omega arith)
  array_step o f (suc n) l = rw (o.first x, skip_ws o.blank x, f n (omega arith))

  close_step : (o : Opened 93 a) (n : ℕ) → 1 ≤ n → items_at n (skip (a ++ x)) ≡ (Trees.no_trees, o.space ++ x)
  unfolding items_at
  close_step o zero l = absurd (omega arith)
  close_step o (suc n) l = rw (o.first x)

  items_step : {vs : Trees} {y : List ℕ} {m : ℕ} → Opened 44 a
      → ((n : ℕ) → m ≤ n → then_items (λ z. items_at n z) (value_at n (skip x)) ≡ (vs, y))
      → (n : ℕ) → suc m ≤ n → items_at n (skip (a ++ x)) ≡ (vs, y)
  unfolding items_at
  items_step o f zero l = absurd (omega arith)
  items_step o f (suc n) l = rw (o.first x, skip_ws o.blank x, f n (omega arith))

  -- braces
  object_step : {fs : Fields} {y : List ℕ} {m : ℕ} → Opened 123 a
      → ((n : ℕ) → m ≤ n → members_at n (skip x) ≡ (fs, y))
      → (n : ℕ) → suc m ≤ n → value_at n (skip (a ++ x)) ≡ Got.got (Tree.object fs) y
  unfolding value_at
  object_step o f zero l = absurd (omega arith)
  object_step o f (suc n) l = rw (o.first x, skip_ws o.blank x, f n (omega arith))

  last_step : (o : Opened 125 a) (n : ℕ) → 1 ≤ n → members_at n (skip (a ++ x)) ≡ (Fields.no_fields, o.space ++ x)
  unfolding members_at
  last_step o zero l = absurd (omega arith)
  last_step o (suc n) l = rw (o.first x)

  -- a later member behind its comma
  next_step : {u y z : List ℕ} {fs : Fields} {m k : ℕ} → Opened 44 a → Quoted x u y k
      → ((n : ℕ) → m ≤ n → then_members (λ z. members_at n z) u (value_at n (skip (tl (skip y)))) ≡ (fs, z))
      → (n : ℕ) → suc (k + m) ≤ n → members_at n (skip (a ++ x)) ≡ (fs, z)
  unfolding members_at
  next_step o q f zero l = absurd (omega arith)
  next_step o q f (suc n) l =
      rw (
        o.first x,
        skip_ws o.blank x,
        q.first,
        skip_byte 34 q.inside refl,
        q.reads n (omega arith),
        f n (omega arith),
      )

-- the first member
first_step : {x u y z : List ℕ} {fs : Fields} {m k : ℕ} → Quoted x u y k
    → ((n : ℕ) → m ≤ n → then_members (λ z. members_at n z) u (value_at n (skip (tl (skip y)))) ≡ (fs, z))
    → (n : ℕ) → suc (k + m) ≤ n → members_at n (skip x) ≡ (fs, z)
unfolding members_at
first_step q f zero l = absurd (omega arith)
first_step q f (suc n) l =
    rw (q.first, skip_byte 34 q.inside refl, q.reads n (omega arith), f n (omega arith))

-- ---- each rule of the grammar
number_rule : {t : List ℕ} → Number t → ReadsValue t (Tree.number t)
number_rule d =
    record {
      steps = 1;
      space = [];
      blank = Ws.end;
      reads = λ r e n l. number_step (of_number d) r e n l;
      left = λ r h. refl;
    }

string_rule : {t u : List ℕ} → Str t u → ReadsValue t (Tree.string u)
string_rule d =
    record {
      steps = suc (str_size d);
      space = [];
      blank = Ws.end;
      reads = λ r e n l. string_step (quoted d r) n l;
      left = λ r h. refl;
    }

-- the white space behind a closing bracket or brace
left_over : {w : List ℕ} → Ws w → (r : List ℕ) → T (no_space r) → skip (w ++ r) ≡ r
left_over d r h = skip_ws d r ∙ skip_none r h

no_items_rule : {a b : List ℕ} → Token 91 a → Token 93 b → ReadsValue (a ++ b) (Tree.array Trees.no_trees)
no_items_rule {a} {b} p q =
    let o = opened refl q in
    record {
      steps = 2;
      space = o.space;
      blank = o.blank;
      reads = λ r e n l.
          rw append_assoc
          (array_step (b ++ r) {vs = Trees.no_trees} {y = o.space ++ r} (opened refl p)
          (λ k m. rw (shut_step r o k m)) n l);
      left = λ r h. left_over o.blank r h;
    }

-- an item, and those behind it
item_rest : {t x : List ℕ} {v : Tree} {vs : Trees} (d : ReadsValue t v) (f : ReadsItems x vs) (r : List ℕ) (n : ℕ)
    → d.steps + f.steps ≤ n
    → then_items (λ z. items_at n z) (value_at n (skip (t ++ (x ++ r)))) ≡ (Trees.item v vs, f.space ++ r)
item_rest {x} {v} d f r n l =
    rw (
      d.reads (x ++ r) (apart_ends v (x ++ r) (f.apart r)) n (omega arith),
      skip_ws d.blank (x ++ r),
      f.reads r n (omega arith),
    )

items_rule : {a t r : List ℕ} {v : Tree} {vs : Trees} → Token 91 a → ReadsValue t v → ReadsItems r vs
    → ReadsValue (a ++ (t ++ r)) (Tree.array (Trees.item v vs))
items_rule {a} {t} {r = x} p d f =
    record {
      steps = suc (d.steps + f.steps);
      space = f.space;
      blank = f.blank;
      reads = λ r e n l.
          rw (append_assoc, append_assoc)
          (array_step (t ++ (x ++ r)) (opened refl p) (λ k m. item_rest d f r k m) n l);
      left = λ r h. left_over f.blank r h;
    }

close_items_rule : {b : List ℕ} → Token 93 b → ReadsItems b Trees.no_trees
close_items_rule q =
    let o = opened refl q in
    record {
      steps = 1;
      space = o.space;
      blank = o.blank;
      reads = λ r n l. close_step r o n l;
      apart = λ r. token_apart tt q r;
    }

more_items_rule : {c t r : List ℕ} {v : Tree} {vs : Trees} → Token 44 c → ReadsValue t v → ReadsItems r vs
    → ReadsItems (c ++ (t ++ r)) (Trees.item v vs)
more_items_rule {c} {t} {r = x} p d f =
    record {
      steps = suc (d.steps + f.steps);
      space = f.space;
      blank = f.blank;
      reads = λ r n l.
          rw (append_assoc, append_assoc)
          (items_step (t ++ (x ++ r)) (opened refl p) (λ k m. item_rest d f r k m) n l);
      apart = λ r. rw append_assoc (token_apart tt p ((t ++ x) ++ r));
    }

no_members_rule : {a b : List ℕ} → Token 123 a → Token 125 b → ReadsValue (a ++ b) (Tree.object Fields.no_fields)
no_members_rule {a} {b} p q =
    let o = opened refl q in
    record {
      steps = 2;
      space = o.space;
      blank = o.blank;
      reads = λ r e n l.
          rw append_assoc (object_step (b ++ r) (opened refl p) (λ k m. last_step r o k m) n l);
      left = λ r h. left_over o.blank r h;
    }

-- the value behind a name's colon, and the members behind it
member_rest : {c t x u : List ℕ} {v : Tree} {fs : Fields} → Token 58 c → (d : ReadsValue t v) (f : ReadsMembers x fs)
    → (r : List ℕ) (n : ℕ) → d.steps + f.steps ≤ n
    → then_members (λ z. members_at n z) u (value_at n (skip (tl (skip (c ++ (t ++ (x ++ r)))))))
    ≡ (Fields.field u v fs, f.space ++ r)
member_rest {t} {x} {v} p d f r n l =
    let o = opened refl p in
    rw (
      o.first (t ++ (x ++ r)),
      skip_ws o.blank (t ++ (x ++ r)),
      d.reads (x ++ r) (apart_ends v (x ++ r) (f.apart r)) n (omega arith),
      skip_ws d.blank (x ++ r),
      f.reads r n (omega arith),
    )

members_rule : {a n c t r u : List ℕ} {v : Tree} {fs : Fields}
    → Token 123 a → Str n u → Token 58 c → ReadsValue t v → ReadsMembers r fs
    → ReadsValue (a ++ (n ++ (c ++ (t ++ r)))) (Tree.object (Fields.field u v fs))
members_rule {a} {n = i} {c} {t} {r = x} p s o d f =
    record {
      steps = suc (suc (str_size s + (d.steps + f.steps)));
      space = f.space;
      blank = f.blank;
      reads = λ r e n l.
          rw (append_assoc, append_assoc, append_assoc, append_assoc)
          (object_step (i ++ (c ++ (t ++ (x ++ r)))) (opened refl p)
          (λ k m. first_step (quoted s (c ++ (t ++ (x ++ r)))) (λ k m. member_rest o d f r k m) k m) n l);
      left = λ r h. left_over f.blank r h;
    }

close_members_rule : {b : List ℕ} → Token 125 b → ReadsMembers b Fields.no_fields
close_members_rule q =
    let o = opened refl q in
    record {
      steps = 1;
      space = o.space;
      blank = o.blank;
      reads = λ r n l. last_step r o n l;
      apart = λ r. token_apart tt q r;
    }

more_members_rule : {m n c t r u : List ℕ} {v : Tree} {fs : Fields}
    → Token 44 m → Str n u → Token 58 c → ReadsValue t v → ReadsMembers r fs
    → ReadsMembers (m ++ (n ++ (c ++ (t ++ r)))) (Fields.field u v fs)
more_members_rule {m} {n = i} {c} {t} {r = x} p s o d f =
    record {
      steps = suc (str_size s + (d.steps + f.steps));
      space = f.space;
      blank = f.blank;
      reads = λ r n l.
          rw (append_assoc, append_assoc, append_assoc, append_assoc)
          (next_step (i ++ (c ++ (t ++ (x ++ r)))) (opened refl p) (quoted s (c ++ (t ++ (x ++ r))))
          (λ k m. member_rest o d f r k m) n l);
      apart = λ r. rw append_assoc (token_apart tt p ((i ++ (c ++ (t ++ x))) ++ r));
    }

-- ---- all of the grammar
pub read_value : {t : List ℕ} {v : Tree} → Value t v → ReadsValue t v
read_value d =
    elim d as (λ t v d. ReadsValue t v) (λ t vs d. ReadsItems t vs) (λ t fs d. ReadsMembers t fs) [
      | Value.is_null ↦
          record { steps = 1; space = []; blank = Ws.end; reads = λ r e n l. null_step r n l; left = λ r h. refl }
      | Value.is_true ↦
          record { steps = 1; space = []; blank = Ws.end; reads = λ r e n l. true_step r n l; left = λ r h. refl }
      | Value.is_false ↦
          record { steps = 1; space = []; blank = Ws.end; reads = λ r e n l. false_step r n l; left = λ r h. refl }
      | Value.is_number d ↦ number_rule d
      | Value.is_string d ↦ string_rule d
      | Value.no_items p q ↦ no_items_rule p q
      | Value.items p (d → h) (f → k) ↦ items_rule p h k
      | Value.no_members p q ↦ no_members_rule p q
      | Value.members p s o (d → h) (f → k) ↦ members_rule p s o h k
      | Items.close_items q ↦ close_items_rule q
      | Items.more_items p (d → h) (f → k) ↦ more_items_rule p h k
      | Members.close_members q ↦ close_members_rule q
      | Members.more_members p s o (d → h) (f → k) ↦ more_members_rule p s o h k
    ]
