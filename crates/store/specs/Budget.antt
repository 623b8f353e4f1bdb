-- The rows and writes that a store has left, and what spends them.
use Rattle.std.specs.Prelude.{ℕ, ◌-◌, Bool, cond, ◌&&◌, is_ok, Ok, Err, Result, ◌==◌, nat_le}
use Rattle.store.specs.declared.kind.Refusal.{Refusal}
use Rattle.store.specs.declared.kind.Refusal.TheVariants.{Gone, NoRoom}
use Rattle.store.specs.declared.making.MakeError.{MakeError}
use Rattle.store.specs.declared.making.MakeError.TheVariants.{Bad}
use Rattle.store.specs.declared.budget.Budget.{Budget}

-- all rows are free, and no write is left; more than 1,152 rows are bad
abbrev pub budget_for : ℕ → Result Budget MakeError
budget_for rows = cond (nat_le rows 1152) (Ok record { free = rows; writes = 0 }) (Err Bad)

-- no writes left is gone
abbrev pub spend_answer : Budget → Result (Unit {0}) Refusal
spend_answer b = cond (b.writes == 0) (Err Gone) (Ok tt)

-- one write less
abbrev pub spent : Budget → Budget
spent b = record { free = b.free; writes = b.writes - 1 }

abbrev pub spend_after : Result (Unit {0}) Refusal → Budget → Budget
spend_after r b = cond (is_ok r) (spent b) b

-- no writes left is gone; else an absent row without a free one finds no room
abbrev pub take_answer : Budget → Bool → Result (Unit {0}) Refusal
take_answer b absent = cond (b.writes == 0) (Err Gone) (cond (absent && b.free == 0) (Err NoRoom) (Ok tt))

-- one write less, and one free row if the row was absent
abbrev pub taken : Budget → Bool → Budget
taken b absent = record { free = cond absent (b.free - 1) b.free; writes = b.writes - 1 }

abbrev pub take_after : Result (Unit {0}) Refusal → Budget → Bool → Budget
take_after r b absent = cond (is_ok r) (taken b absent) b
