-- The names that the proofs of this crate cite, passed on from one place. Declares nothing.
pub use Rattle.std.proofs.Common.{All, Bool, IfSome, IsTrue, List, MatchOption, None, Option, Some, [], add-one, add-zero, ap, append-nil, append_assoc, ap₂, arith, cond, drop, eq-eqb, eqb, false, get_or, get_or-set_other, get_or-set_same, if◌then◌else◌, inl, inr, length, length-append, map, nat_le, nat_lt, not, refl, replicate, set, slice_index, slice_index_or, slice_range, slice_set, subst, suc, sym, take, true, zero, ℕ, ⊎_elim, ◌%◌, ◌&&◌, ◌||◌, ◌*◌, ◌++◌, ◌+◌, ◌-◌, ◌/◌, ◌<◌, ◌==◌, ◌^◌, ◌∙◌, ◌∷◌, ◌≡◌, ◌≢◌, ◌≤◌, ◌⊎◌, ◌↔◌}
pub use Rattle.std.proofs.Math.Seq.{take-add}
pub use Rattle.std.proofs.Props.{props}
pub use Rattle.std.proofs.lemmas.Bool.{cases_eq, cases_lt, cond-false, cond-true, eqb-true, le-leb, leb-true, lt-leb, lt-ltb, ltb-true, ne_eqb, or_cases}
pub use Rattle.std.proofs.lemmas.Bool.Decides.{nat_tests}
pub use Rattle.std.proofs.lemmas.Grind.{common_steps}
pub use Rattle.std.proofs.lemmas.List.{drop-drop, drop-take, drop_at, flat_map_more, get_or-drop, get_or-map, get_or-take, get_or_append_left, get_or_default, get_or_past, get_or_push, length-drop, length-map, length-replicate, length-set, length-take, map-append, nil_from_length, same_lists, take-append-drop, take-take, take_at, take_more, take_rest}
pub use Rattle.std.proofs.lemmas.List.Edits.{between_none, length-between}
pub use Rattle.std.proofs.lemmas.List.Elements.{All-append, All-cons, All-drop, All-from_recursion, All-map, All-nil, All-replicate, All-take}
pub use Rattle.std.proofs.lemmas.List.Folds.{length-flat_map-take}
pub use Rattle.std.proofs.lemmas.List.FromFn.{fill_by_all, get_or-map-range_with_len, length-map-range_with_len, map-range_with_len_more}
pub use Rattle.std.proofs.lemmas.Nat.{le_bytes_4, le_bytes_8}
pub use Rattle.std.proofs.lemmas.Slice.{between_to_end}
pub use Rattle.std.specs.Int.{byte_at, bytes_low_first}
pub use Rattle.std.specs.List.{flat_map, list_all}
pub use Rattle.std.specs.Option.{IfNone, option_or}
pub use Rattle.byteorder.specs.Endian.{little_from}
pub use Rattle.byteorder.specs.Numbers.{length-bytes_low_first, little_from-lt, little_from-take, little_number-reads_back}
pub use Rattle.recording_limits.specs.declared.limits.TheConstants.{MAX_EVENTS_WITH_DISK, MAX_OUTPUT, MAX_PAGES, MAX_EVENTS}
pub use Rattle.risc_core.proofs.FlagsLemmas.{flags_back, number_back, number_below}
pub use Rattle.risc_core.specs.Flags.{flags_number, flags_of}
pub use Rattle.risc_core.specs.declared.branch.TheConstants.{COUNTER_END}
pub use Rattle.risc_core.specs.declared.flags.Flags.{Flags}
pub use Rattle.risc_devices.proofs.DeviceLemmas.{same_devices}
pub use Rattle.risc_devices.proofs.InputLemmas.{input_of, kind_fits, kind_of-input_of, mouse_word_fits, same_input, value_fits, value_of-input_of}
unfoldable pub use Rattle.risc_devices.specs.DeviceState.{is_phase}
pub use Rattle.risc_devices.specs.DeviceState.{DeviceState, IsDeviceState, IsPhase, serial_number}
pub use Rattle.risc_devices.specs.Input.{kind_of, value_of}
unfoldable pub use Rattle.risc_devices.specs.InputKind.{is_input, is_input_with_disk, is_mouse}
pub use Rattle.risc_devices.specs.declared.input.Input.{Input}
pub use Rattle.risc_devices.specs.declared.disk.TheConstants.{UNANSWERED}
pub use Rattle.risc_devices.specs.declared.kinds.TheConstants.{DISK}
pub use Rattle.risc_model.specs.DiskInputs.{IsOfDisk}
pub use Rattle.risc_model.specs.InputOrder.{AreOrdered, count_before as before_count}
pub use Rattle.risc_model.specs.MachineState.{CpuState}
pub use Rattle.risc_model.specs.declared.event.Event.{Event}
pub use Rattle.risc_model.specs.declared.inputs.TheConstants.{MAX_COUNT}
pub use Rattle.risc_pages.proofs.PoolLemmas.{zero_number}
unfoldable pub use Rattle.risc_pages.specs.Pages.{page_of}
pub use Rattle.risc_pages.specs.Pages.{ArePages, IsPage, zero_page}
unfoldable pub use Rattle.risc_pages.specs.Tables.{zero_numbers}
pub use Rattle.risc_pages.specs.Tables.{IsTable}
pub use Rattle.risc_pages.specs.declared.sizes.TheConstants.{PAGE_SLOTS}
unfoldable pub use Rattle.oberon_format.specs.Changes.{changes, changes_below, no_change, page_id_after}
pub use Rattle.oberon_format.specs.CheckpointParts.{CheckpointParts, checkpoint_parts, key_bytes, no_checkpoint}
unfoldable pub use Rattle.oberon_format.specs.Encoding.{change_bytes, checkpoint_bytes, checkpoints_bytes, disk_words, rate_and_phase, common_bytes, encoding, event_bytes, field_words, header_bytes, tail_words, long_bytes, tail_bytes, word_bytes, words_bytes}
unfoldable pub use Rattle.oberon_format.specs.Fields.{total}
pub use Rattle.oberon_format.specs.Fields.{EventFields, Fields, sent_below}
unfoldable pub use Rattle.oberon_format.specs.FirstFault.{each, first_broken, Rule}
pub use Rattle.oberon_format.specs.Formed.{AreFormed, AreWritable, AreWritableWithDisk, IsFormed, IsWritable, IsWritableWithDisk}
unfoldable pub use Rattle.oberon_format.specs.Layout.{change_count, change_offset, checkpoint_len, checkpoints, disk_at, disk_len, event_offset, event_start, events, word_since_2, long_at, output_offset, page_id_offset, page_offset, pages, start, version, word_at}
pub use Rattle.oberon_format.specs.Line.{IsNamedFault}
unfoldable pub use Rattle.oberon_format.specs.PartFields.{answer_rules, changes_in, checkpoint_fields, event_fields, fault_in, fault_of_parts, fault_of_parts_with_disk, fields_in, no_event, start_in}
pub use Rattle.oberon_format.specs.Ranges.{are_keys, has_kind, in_ranges, is_change, is_checkpoint, is_count, is_event, is_output, is_version, is_version_with_disk, max_events}
pub use Rattle.oberon_format.specs.Recording.{HasNoAnswers, IsFit, IsLawful, IsLawfulWithDisk, IsUnanswered, RecordingParts, checkpoint_at, output_of, parts_of, table_before}
unfoldable pub use Rattle.oberon_format.specs.Rules.{change_rules, changed_rules, checkpoint_rules, count_before, end_rules, event_floor, event_rules, field_rules, header_rules, limit_rules, named_len, offset_of_event, page_id_rules, slot_floor, prior_page_id, file_len, version_rules, whole_rules}
pub use Rattle.oberon_format.specs.Text.{AreBytes, HasStillTimer, Text, TextWithDisk, IsEncoding, IsPlain}
unfoldable pub use Rattle.oberon_format.specs.ByteFields.{change_at, change_of, checkpoint_of, event_of, fields_of, first_fault_of, first_fault_with_disk, page_id_before, page_id_of}
pub use Rattle.oberon_format.specs.declared.change.Change.{Change}
pub use Rattle.oberon_format.specs.declared.checkpoint.Checkpoint.{Checkpoint}
pub use Rattle.oberon_format.specs.declared.fault.Fault.{Fault}
pub use Rattle.oberon_format.specs.declared.fields.CheckpointFields.{CheckpointFields}
pub use Rattle.oberon_format.specs.declared.layout.TheConstants.{H_AT, CHANGES_AT, CHANGE_COUNT_AT, CHANGE_LEN, CHECKPOINTS_AT, CHECKPOINT_LEN, COMMON_LEN, DISK_LEN, PC_AT, EVENTS_AT, EVENT_LEN, FIRST_VERSION, FLAGS_AT, HEADER_LEN, KEYS_AT, KIND_AT, LAST_AT, LEDS_AT, LONGEST_RECORDING, LONGEST_WITH_DISK, MAGIC, MAGIC_AT, MOUSE_AT, PAGE_ID_AT, PAGES_AT, PAGE_LEN, PHASE_AT, RATE_AT, REGISTERS_AT, VERSION, SENT_AT, SERIAL_AT, STOP_AT, SWITCHES_AT, TABLE_AT, TIMER_AT, VALUE_AT, VERSION_WITH_DISK, VERSION_AT, WAITING_AT}
pub use Rattle.oberon_format.specs.declared.ranges.TheConstants.{FLAGS_END, LEDS_END, MAX_CHECKPOINTS, MAX_KEYS, MAX_STOP, SERIAL_END, SWITCHES_END}
unfoldable pub use Rattle.oberon_format.specs.inner.Decoded.{checkpoints_at, decoded, EachAt, IsEventAt, page_at, pages_at, table_at, words_from}
pub use Rattle.oberon_format.specs.inner.Tested.{HasPageIds, IsSized, Meets, encoded_change_rules}
