-- The items of a FIFO, the puts, takes and peeks that wait at it, and its next move.
use Rattle.std.specs.Prelude.{ℕ, Bool, true, false, ◌||◌, ◌&&◌, ◌==◌, ◌+◌, nat_lt, not, List, [], ◌∷◌, ◌++◌, length, filter, drop, Option, Some, None, if◌then◌else◌}
use Rattle.std.specs.Option.{option_or}
use Rattle.uvm_tlm.specs.declared.items.Item.{Item}
use Rattle.uvm_tlm.specs.declared.fifos.Move.{Move}
use Rattle.uvm_tlm.specs.declared.fifos.MoveKind.{MoveKind}
use Rattle.uvm_tlm.specs.declared.fifos.MoveKind.TheVariants.{Put, Take, Peek}
use Rattle.uvm_tlm.specs.declared.fifos.WaitingPut.{WaitingPut}
use Rattle.uvm_tlm.specs.declared.fifos.WaitingTake.{WaitingTake}

-- a FIFO: its size, 0 for no limit; its items, its waiting puts, and its waiting takes and peeks, each list with the earliest first
pub record FifoValue (O : Type 0) : Type 0 where
  pub size : ℕ
  pub items : List Item
  pub puts : List (WaitingPut O)
  pub takes : List (WaitingTake O)

-- an empty FIFO of a size
abbrev pub new_fifo : {O : Type 0} → ℕ → FifoValue O
new_fifo size = record { size = size; items = []; puts = []; takes = [] }

-- a FIFO with one more item at the end
abbrev pub with_item : {O : Type 0} → Item → FifoValue O → FifoValue O
with_item item f = record f { items = f.items ++ item ∷ [] }

-- a FIFO with one more waiting put at the end
abbrev pub with_put : {O : Type 0} → O → Item → FifoValue O → FifoValue O
with_put owner item f = record f { puts = f.puts ++ record { owner = owner; item = item } ∷ [] }

-- a FIFO with one more waiting take at the end
abbrev pub with_take : {O : Type 0} → O → FifoValue O → FifoValue O
with_take owner f = record f { takes = f.takes ++ record { owner = owner; peeks = false } ∷ [] }

-- a FIFO with one more waiting peek at the end
abbrev pub with_peek : {O : Type 0} → O → FifoValue O → FifoValue O
with_peek owner f = record f { takes = f.takes ++ record { owner = owner; peeks = true } ∷ [] }

-- a FIFO without its first item
abbrev pub without_item : {O : Type 0} → FifoValue O → FifoValue O
without_item f = record f { items = drop 1 f.items }

-- the number of puts, takes and peeks that wait
abbrev pub waiting_count : {O : Type 0} → FifoValue O → ℕ
waiting_count f = length f.puts + length f.takes

-- whether one more item fits
abbrev pub has_room : {O : Type 0} → FifoValue O → Bool
has_room f = (f.size == 0) || nat_lt (length f.items) f.size

-- whether an item can be put immediately: the FIFO is not full, and no put waits
unfoldable pub can_put : {O : Type 0} → FifoValue O → Bool
can_put f = has_room f && (length f.puts == 0)

-- whether an item can be taken immediately: there is one, and no take or peek waits
unfoldable pub can_take : {O : Type 0} → FifoValue O → Bool
can_take f = nat_lt 0 (length f.items) && (length f.takes == 0)

-- the move by which the first waiting take or peek gets the first item, if there are both
abbrev pub first_take : {O : Type 0} → List (WaitingTake O) → List Item → Option (Move O)
first_take (take ∷ takes) (item ∷ items) = Some (record { kind = if take.peeks then Peek else Take; owner = take.owner; item = item })
first_take takes items = None

-- the move of the first waiting take or peek at a FIFO, if there is an item
abbrev pub take_move : {O : Type 0} → FifoValue O → Option (Move O)
take_move f = first_take f.takes f.items

-- the move of the first waiting put, if there is one
abbrev pub first_put : {O : Type 0} → List (WaitingPut O) → Option (Move O)
first_put (put ∷ puts) = Some (record { kind = Put; owner = put.owner; item = put.item })
first_put [] = None

-- the move of the first waiting put at a FIFO, if one more item fits
abbrev pub put_move : {O : Type 0} → FifoValue O → Option (Move O)
put_move f = if has_room f then first_put f.puts else None

-- the next move: that of the first waiting take or peek, if there is an item; otherwise that of the first waiting put, if the FIFO is not full
unfoldable pub next_move : {O : Type 0} → FifoValue O → Option (Move O)
next_move f = option_or (take_move f) (put_move f)

-- a FIFO after a move: a put adds its item, a take removes the first item, a peek leaves it; the wait of each ends
abbrev pub after_kind : {O : Type 0} → MoveKind → Item → FifoValue O → FifoValue O
after_kind Put item f = record f { items = f.items ++ item ∷ []; puts = drop 1 f.puts }
after_kind Take item f = record f { items = drop 1 f.items; takes = drop 1 f.takes }
after_kind Peek item f = record f { takes = drop 1 f.takes }

-- a FIFO after a move, unchanged if there is none
abbrev pub after_move : {O : Type 0} → Option (Move O) → FifoValue O → FifoValue O
after_move None f = f
after_move (Some move) f = after_kind move.kind move.item f

-- a FIFO without the puts, takes and peeks that were requested in a phase, if this is the phase of each owner
abbrev pub cleared : {O : Type 0} → (O → ℕ) → ℕ → FifoValue O → FifoValue O
cleared phase_of phase f = record f {
  puts = filter (λ put. not (phase_of put.owner == phase)) f.puts;
  takes = filter (λ take. not (phase_of take.owner == phase)) f.takes;
}
