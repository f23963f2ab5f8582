-- Layers of tracks, a stack of them, and what the stack shows of a track.
use Rattle.std.specs.Prelude.{ℕ, ◌+◌, ◌<◌, ◌==◌, if◌then◌else◌, is_some, IsSome, List, [], ◌∷◌, ◌++◌, length, filter, Option, Some, None, unwrap_or}
use Rattle.std.specs.List.{range_with_len}
use Rattle.std.specs.Option.{option_or}

-- a layer gives some tracks their stored bytes
abbrev pub Layer : Type 0
Layer = ℕ → Option (List ℕ)

-- the layer that has no track
abbrev pub empty_layer : Layer
empty_layer t = None

-- the layer with these bytes for one track
abbrev pub with_track : Layer → ℕ → List ℕ → Layer
with_track layer t bytes u = if u == t then Some bytes else layer u

-- a layer with the tracks of another one put over its own
abbrev pub overlay : Layer → Layer → Layer
overlay lower upper t = option_or (upper t) (lower t)

-- a base, or a shadow on a stack
pub data Stack : Type 0 where
  base : Layer → Stack
  shadow : Layer → Stack → Stack

-- the stored bytes of a track in the last layer that has it
abbrev pub visible : Stack → ℕ → List ℕ
visible (base layer) t = unwrap_or (layer t) []
visible (shadow layer lower) t = unwrap_or (layer t) (visible lower t)

-- how many layers there are
abbrev pub layer_count : Stack → ℕ
layer_count (base layer) = 1
layer_count (shadow layer lower) = layer_count lower + 1

-- the last layer, which takes all writes
abbrev pub top : Stack → Layer
top (base layer) = layer
top (shadow layer lower) = layer

-- the stack below the last layer, if there is one
abbrev pub below : Stack → Option Stack
below (base layer) = None
below (shadow layer lower) = Some lower

-- the stack with another last layer
abbrev pub with_top : Stack → Layer → Stack
with_top (base layer) other = base other
with_top (shadow layer lower) other = shadow other lower

-- the stack with the last layer's tracks put over those of the layer below it, as one
abbrev pub merged : Stack → Stack
merged (base layer) = base layer
merged (shadow layer lower) = with_top lower (overlay (top lower) layer)

-- the stack without its last layer
abbrev pub dropped : Stack → Stack
dropped (base layer) = base layer
dropped (shadow layer lower) = lower

-- how many of the first n tracks a layer has
abbrev pub tracks_in : ℕ → Layer → ℕ
tracks_in n layer = length (filter (λ (t : ℕ). is_some (layer t)) (range_with_len 0 n))

-- the numbers of tracks that the layers have, the base first
abbrev pub track_counts : ℕ → Stack → List ℕ
track_counts n (base layer) = tracks_in n layer ∷ []
track_counts n (shadow layer lower) = track_counts n lower ++ tracks_in n layer ∷ []

-- the base has each of the first n tracks
abbrev pub HasWholeBase : ℕ → Stack → Type 0
HasWholeBase n (base layer) = (t : ℕ) → t < n → IsSome (layer t)
HasWholeBase n (shadow layer lower) = HasWholeBase n lower
