-- The reader's definitions, passed on. Assumes nothing.
pub use Rattle.uhex_effects.specs.Reader.{fresh_of}
unfoldable pub use Rattle.uhex_effects.specs.Reader.{bad_failure, bad_reader, with_state, with_upper, with_section, with_data, moved_to, given_of, effect_of}
