-- Events are numbers. From 0 on they are trigger, calib, upload, service, which open a window;
-- sample, gap, resend, clock, which leave the number of windows; end, caldone, sent, leave, which close one.
use Rattle.std.specs.Prelude.{ℕ, Bool, true, false, cond, ◌&&◌, List, [], ◌∷◌, Some, None, Option, ◌==◌, nat_lt, slice_index}
use Rattle.std.specs.List.{range_with_len}
use Rattle.profile.specs.declared.Kind.{Kind}
use Rattle.profile.specs.declared.Kind.TheVariants.{Open, Step, Close}

-- the kind of each event, nothing from 12 on
abbrev pub event_kind : ℕ → Option Kind
event_kind e = cond (nat_lt e 4) (Some Open) (cond (nat_lt e 8) (Some Step) (cond (nat_lt e 12) (Some Close) None))

-- how many symbols a rule of each kind puts in the place of the top one
abbrev pub symbols_used : Kind → ℕ
symbols_used Open = 2
symbols_used Step = 1
symbols_used Close = 0

-- there are two such events, and they are of one kind: kinds differ in how many symbols they use
abbrev pub same_kind : Option Kind → Option Kind → Bool
same_kind None b = false
same_kind (Some j) None = false
same_kind (Some j) (Some k) = symbols_used j == symbols_used k

-- every event of a table is of the kind of the event that it replaces
abbrev pub all_kept : (ℕ → Option Kind) → List ℕ → List ℕ → Bool
all_kept kinds table [] = true
all_kept kinds table (e ∷ es) = same_kind (kinds (slice_index table e)) (kinds e) && all_kept kinds table es

unfoldable pub keeps_kinds : (ℕ → Option Kind) → List ℕ → Bool
keeps_kinds kinds table = all_kept kinds table (range_with_len 0 12)
