-- Lists of calls: none, and one more. Assumes nothing.
use mathlib.Core.List.{List, [], ◌∷◌, ◌++◌}
use mathlib.Core.Path.{◌≡◌, refl, ap, ◌∙◌}
use Rattle.room.specs.declared.room.Room.{Room}
use Rattle.demand.specs.Calls.{Call, handed, after, ByCalls}

pub no_calls : (r : Room) → ByCalls r r
unfolding after
no_calls r = record { calls = []; same = refl }

after_last : (cs : List Call) (c : Call) (r : Room) → after (cs ++ (c ∷ [])) r ≡ handed c (after cs r)
unfolding after
after_last [] c r = refl
after_last (d ∷ cs) c r = after_last cs c (handed d r)

pub one_call_more : {r q : Room} (c : Call) → ByCalls r q → ByCalls r (handed c q)
one_call_more {r} c b = record { calls = b.calls ++ (c ∷ []); same = after_last b.calls c r ∙ ap (handed c) b.same }
