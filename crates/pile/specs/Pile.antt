-- The disk that a pile shows, what lies outside it, and the windows stacked on it.
use Rattle.std.specs.Prelude.{◌≡◌, ℕ, ◌<◌, Ok, Err, Result}
use Rattle.store.specs.Disk.{Disk, Sound}
use Rattle.window.specs.declared.Window.{Window}
use Rattle.window.specs.declared.span.Spans.{Spans}
use Rattle.window.specs.Span.{Within}
use Rattle.window.specs.Sound.{view_sound}
use Rattle.window.specs.View.{view, Around, around}
use Rattle.pile.specs.declared.base.Base.{Base}
use Rattle.pile.specs.declared.Pile.{Pile}
use Rattle.pile.specs.declared.Pile.TheVariants.{Bare, One, Two, Three}
use Rattle.pile.specs.declared.ops.StackRefusal.{StackRefusal}
use Rattle.pile.specs.declared.ops.StackRefusal.TheVariants.{Beyond, Full}
use Rattle.pile.specs.declared.ops.Unstacked.{Unstacked}
use Rattle.pile.specs.Base.{base_disk, base_sound, IsTable, IsJournal}

-- what a window shows of a store with a known disk
abbrev pub through : {S : Type 0} → (S → Disk) → Window S → Disk
through disk w = view (disk w.below) w.spans

-- what the top of a pile shows
abbrev pub pile_disk : Pile → Disk
pile_disk (Bare b) = base_disk b
pile_disk (One w) = through base_disk w
pile_disk (Two w) = through (through base_disk) w
pile_disk (Three w) = through (through (through base_disk)) w

-- how many windows stand in it
abbrev pub height_of : Pile → ℕ
height_of (Bare b) = 0
height_of (One w) = 1
height_of (Two w) = 2
height_of (Three w) = 3

-- a table, or a journal, without windows
abbrev pub BareWith : (Base → Type 0) → Pile → Type 0
BareWith P (Bare b) = P b
BareWith P (One w) = ⊥
BareWith P (Two w) = ⊥
BareWith P (Three w) = ⊥

abbrev pub OnTable : Pile → Type 0
OnTable p = BareWith IsTable p

abbrev pub OnJournal : Pile → Type 0
OnJournal p = BareWith IsJournal p

-- what lies outside the view of the top, window by window
pub data Frames : Type 0 where
  bare : Frames
  one : Around (Unit {0}) → Frames
  two : Around (Around (Unit {0})) → Frames
  three : Around (Around (Around (Unit {0}))) → Frames

abbrev pub outside : {S F : Type 0} → (S → Disk) → (S → F) → Window S → Around F
outside disk rest w = around (disk w.below) (rest w.below) w.spans

abbrev pub nothing : Base → Unit {0}
nothing b = tt

abbrev pub pile_rest : Pile → Frames
pile_rest (Bare b) = bare
pile_rest (One w) = one (outside base_disk nothing w)
pile_rest (Two w) = two (outside (through base_disk) (outside base_disk nothing) w)
pile_rest (Three w) = three (outside (through (through base_disk)) (outside (through base_disk) (outside base_disk nothing)) w)

-- one pile is the other with a window more
abbrev pub Over : Pile → Spans → Pile → Type 0
Over (Bare b) s (One w) = (w.below ≡ b) × (w.spans ≡ s)
Over (One v) s (Two w) = (w.below ≡ v) × (w.spans ≡ s)
Over (Two v) s (Three w) = (w.below ≡ v) × (w.spans ≡ s)
Over (Bare b) s (Bare w) = ⊥
Over (Bare b) s (Two w) = ⊥
Over (Bare b) s (Three w) = ⊥
Over (One v) s (Bare w) = ⊥
Over (One v) s (One w) = ⊥
Over (One v) s (Three w) = ⊥
Over (Two v) s (Bare w) = ⊥
Over (Two v) s (One w) = ⊥
Over (Two v) s (Two w) = ⊥
Over (Three v) s q = ⊥

-- why no window was stacked: a fourth is refused whatever its spans, else one beyond the limits
abbrev pub Refuses : Pile → Spans → StackRefusal → Type 0
Refuses p s Beyond = (height_of p < 3) × (Within (pile_disk p) s → ⊥)
Refuses p s Full = height_of p ≡ 3

-- a window within the limits is stacked and shows its part of what the pile showed; a refusal hands the pile back
abbrev pub Stacks : Pile → Spans → Result Pile Unstacked → Type 0
Stacks p s (Ok q) = Over p s q × (Within (pile_disk p) s × (pile_disk q ≡ view (pile_disk p) s))
Stacks p s (Err e) = (e.pile ≡ p) × Refuses p s e.why

-- the proof that a pile shows a sound disk; a reader may skip it
window_sound : {S : Type 0} (disk : S → Disk) → ((s : S) → Sound (disk s)) → (w : Window S) → Sound (through disk w)
window_sound disk ok w = view_sound (disk w.below) w.spans (ok w.below)

pub pile_sound : (p : Pile) → Sound (pile_disk p)
pile_sound (Bare b) = base_sound b
pile_sound (One w) = window_sound base_disk base_sound w
pile_sound (Two w) = window_sound (through base_disk) (window_sound base_disk base_sound) w
pile_sound (Three w) = window_sound (through (through base_disk)) (window_sound (through base_disk) (window_sound base_disk base_sound)) w
