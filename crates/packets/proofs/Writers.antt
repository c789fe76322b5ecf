-- A text that is written piece by piece.
-- Assumes nothing.
use Rattle.std.proofs.Common.{◌≡◌, refl, sym, ◌∙◌, arith, ℕ, ◌<◌, List, [], ◌∷◌, ◌++◌, length, subst, append-nil}
use Rattle.texts.specs.Put.{Due, due_all, due_as, due_room, due_put, due_none, due_last}
use Rattle.packets.specs.Writers.{RoomIn, Wrote}
use Rattle.packets.specs.declared.put.Writer.{Writer}

pub wrote_as : {w v : Writer} {s t : List ℕ} → s ≡ t → Wrote w s v → Wrote w t v
wrote_as {w} {v} e h = subst (λ (x : List ℕ). Wrote w x v) e h

-- Of the text t, which is to stand where w is, the part u is still due where v is now.
pub record Left (w : Writer) (t : List ℕ) (v : Writer) (u : List ℕ) : Type 0 where
  pub due : Due w.buf.now w.at t v.buf.now v.at u
  pub same : v.buf.ghost_name ≡ w.buf.ghost_name

pub left_all : (w : Writer) {t : List ℕ} → RoomIn w t → Left w t w t
left_all w h = record { due = due_all h; same = refl }

pub left_as : {w : Writer} {t : List ℕ} {v : Writer} {u x : List ℕ} → u ≡ x → Left w t v u → Left w t v x
left_as e h = record { due = due_as e h.due; same = h.same }

pub left_room : {w : Writer} {t : List ℕ} {v : Writer} (s u : List ℕ) → Left w t v (s ++ u) → RoomIn v s
left_room s u h = due_room s u h.due

-- there is room for a byte
pub left_byte : {w : Writer} {t : List ℕ} {v : Writer} (b : ℕ) (u : List ℕ) → Left w t v ((b ∷ []) ++ u) → v.at < length v.buf.now
left_byte b u h = omega (arith, (due_room (b ∷ []) u h.due).room)

pub left_put : {w : Writer} {t : List ℕ} {v : Writer} {s : List ℕ} {x : Writer} (u : List ℕ) → Left w t v (s ++ u) → Wrote v s x → Left w t x u
left_put u h p = record { due = due_put u h.due p.put; same = p.same ∙ h.same }

-- the last piece
pub left_end : {w : Writer} {t : List ℕ} {v : Writer} {s : List ℕ} → Left w t v s → RoomIn v s
left_end {s = s} h = due_room s [] (due_as (sym (append-nil s)) h.due)

pub left_last : {w : Writer} {t : List ℕ} {v : Writer} {s : List ℕ} {x : Writer} → Left w t v s → Wrote v s x → Wrote w t x
left_last h p = record { put = due_last h.due p.put; same = p.same ∙ h.same }

pub left_done : {w : Writer} {t : List ℕ} {v : Writer} → Left w t v [] → Wrote w t v
left_done h = record { put = due_none h.due; same = h.same }
