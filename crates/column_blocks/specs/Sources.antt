-- Lists of buffers that views to be pushed name, and which of these buffers were taken: this library's own.
use Rattle.std.specs.Prelude.{◌≡◌, ℕ, ◌<◌, List, [], ◌∷◌, ◌++◌, length, replicate, slice_set, slice_index_or, unwrap_or, Option, Some, None, if◌then◌else◌}
use Rattle.column_base.specs.declared.errors.Cause.{Cause}
use Rattle.column_view.specs.Views.{buffer_at, is_long, view_index, with_index}
use Rattle.column_blocks.specs.Blocks.{ByteBlocks, buffers_of, block_finished, buffer_pushed, full_fault, AreSoundBlocks}

-- The registered lists of buffers, and for each of their buffers the place of the finished one that was made of it.
pub record SourceBuffers : Type 0 where
  pub sources : List (List (List ℕ))
  pub places : List (List (Option ℕ))

abbrev pub source_buffers : List (List (List ℕ)) → List (List (Option ℕ)) → SourceBuffers
source_buffers sources places = record { sources = sources; places = places }

-- no sources
abbrev pub no_sources : SourceBuffers
no_sources = source_buffers [] []

-- the buffers of a source
abbrev pub source_at : SourceBuffers → ℕ → List (List ℕ)
source_at taken source = slice_index_or taken.sources source []

-- the places at which the buffers of a source were taken
abbrev pub places_at : SourceBuffers → ℕ → List (Option ℕ)
places_at taken source = slice_index_or taken.places source []

-- the place at which one buffer of a source was taken, if it was
unfoldable pub place_of : SourceBuffers → ℕ → ℕ → Option ℕ
place_of taken source buffer = slice_index_or (places_at taken source) buffer None

-- a buffer of a source was taken, at a place
unfoldable pub place_noted : SourceBuffers → ℕ → ℕ → ℕ → SourceBuffers
place_noted taken source buffer place =
    source_buffers taken.sources (slice_set taken.places source (slice_set (places_at taken source) buffer (Some place)))

-- a further source, of which nothing was taken
abbrev pub source_added : SourceBuffers → List (List ℕ) → SourceBuffers
source_added taken buffers = source_buffers (taken.sources ++ buffers ∷ []) (taken.places ++ replicate (length buffers) None ∷ [])

-- Each source has a place for each of its buffers.
pub record AreSoundSources (taken : SourceBuffers) : Type 0 where
  pub same : length taken.places ≡ length taken.sources
  pub all : (source : ℕ) → length (places_at taken source) ≡ length (source_at taken source)

-- each buffer that was taken stands among the finished ones, at its place
abbrev pub AreTaken : SourceBuffers → List (List ℕ) → Type 0
AreTaken taken finished =
    (source buffer place : ℕ) → place_of taken source buffer ≡ Some place
    → (place < length finished) × (buffer_at finished place ≡ buffer_at (source_at taken source) buffer)

-- What stands behind the views of a builder: blocks, and the sources of which buffers were taken into them.
pub record BuilderBytes : Type 0 where
  pub blocks : ByteBlocks
  pub taken : SourceBuffers

abbrev pub builder_bytes : ByteBlocks → SourceBuffers → BuilderBytes
builder_bytes blocks taken = record { blocks = blocks; taken = taken }

pub record AreSoundBytes (bytes : BuilderBytes) : Type 0 where
  pub blocks : AreSoundBlocks bytes.blocks
  pub taken : AreTaken bytes.taken bytes.blocks.finished

-- why no buffer is taken: it was not yet, and there may be no further one
abbrev pub take_fault : Option ℕ → ByteBlocks → Option Cause
take_fault (Some place) blocks = None
take_fault None blocks = full_fault blocks

-- The block is finished, and then a buffer of a source is added where it was not taken yet, and its place noted.
abbrev pub buffer_taken : Option ℕ → BuilderBytes → ℕ → ℕ → BuilderBytes
buffer_taken (Some place) bytes source buffer = builder_bytes (block_finished bytes.blocks) bytes.taken
buffer_taken None bytes source buffer = builder_bytes
    (buffer_pushed bytes.blocks (buffer_at (source_at bytes.taken source) buffer))
    (place_noted bytes.taken source buffer (length (buffers_of bytes.blocks)))

-- the buffers that are added where one is taken
abbrev pub buffers_added : Option ℕ → List ℕ → List (List ℕ)
buffers_added (Some place) buffer = []
buffers_added None buffer = buffer ∷ []

-- the place at which the buffer that a view of a source names was taken, if it was
abbrev pub found_place : BuilderBytes → List ℕ → ℕ → Option ℕ
found_place bytes view source = place_of bytes.taken source (view_index view)

-- Of a view of a source: the buffer that it names is taken where it is long.
abbrev pub view_taken : BuilderBytes → List ℕ → ℕ → BuilderBytes
view_taken bytes view source =
    if is_long view then buffer_taken (found_place bytes view source) bytes source (view_index view) else bytes

-- the same view over the blocks: a long one names its buffer there
abbrev pub taken_view : BuilderBytes → List ℕ → ℕ → List ℕ
taken_view bytes view source =
    if is_long view then with_index view (unwrap_or (found_place bytes view source) (length (buffers_of bytes.blocks))) else view

-- why it is refused
abbrev pub view_take_fault : BuilderBytes → List ℕ → ℕ → Option Cause
view_take_fault bytes view source = if is_long view then take_fault (found_place bytes view source) bytes.blocks else None

-- the buffers that are added for it
abbrev pub taken_buffers : BuilderBytes → List ℕ → ℕ → List (List ℕ)
taken_buffers bytes view source =
    if is_long view then buffers_added (found_place bytes view source) (buffer_at (source_at bytes.taken source) (view_index view)) else []
