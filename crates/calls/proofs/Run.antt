-- One name whose `unfolding` opens every definition that an evaluated example runs. Assumes nothing.
use Prim.Native.Nat.{ℕ}
use Rattle.answer.specs.Answer.{code_of, stores_of, first_of, second_of}
use Rattle.cache.specs.Cache.{owner, dirty, content, with_slot, cell_content, shadow_owner, from, stray, any_owner, missing_top, bad_slot}
use Rattle.cache.specs.Cache.{flags_formed, formed, holds, current}
use Rattle.calls.specs.Call.{judged, access_refusal, storing}
use Rattle.calls.specs.Read.{side_ok, line_text, blank_text, answered, read_loaded, read_path, read_judged}
use Rattle.calls.specs.Write.{new_block, line_cell, write_batch, write_stores, written_cache, write_loaded, write_path, write_judged}
use Rattle.calls.specs.Turn.{turn_refusal, turn_places, bad_line, batches_of, turn_front, turn_batches, stores_for, turned_cache, turn_checked}
use Rattle.calls.specs.Turn.{turn_loaded, turn_path, turn_judged, before_last, before_finished}
use Rattle.calls.specs.Recovery.{recovery_refusal, by_phase, by_choice, step_of, onward, stepped, forward_from, forward_page, rebuild_block}
use Rattle.calls.specs.Recovery.{rebuild_slot, rebuild_blocks, rebuild_node, rebuild_nodes, recover_root, recover_rebuilt}
use Rattle.calls.specs.Recovery.{recover_shadow, recover_judged}
use Rattle.calls.specs.Format.{format_refusal, counts_from, fresh_node, node_cells, level_cells, fresh_array, formatted, format}
use Rattle.calls.specs.DirtyPages.{list_refusal, is_dirty, dirty_from, page_list, list_judged}
use Rattle.calls.specs.ForC.{code_for_c, buffer_for_c, left_for_c}
use Rattle.calls.specs.Path.{evicted, load_node, load_levels, renewed, renew_path, tags_from}
use Rattle.chacha20.specs.ChaCha20.{quarter, quarter_round, column_round, diagonal_round, rounds, add_states, start, serialised, block}
use Rattle.control.specs.Control.{mark_of, mark, family, depth, root, count, new_root, queued, places, queue, in_map}
use Rattle.control.specs.Control.{valid_mark, valid_head, valid, turn_count, turn_page, turn_mask, is_open, other_open, valid_turn, fresh_control}
use Rattle.bits.specs.Bits.{set_from, with_bits}
use Rattle.counter.specs.Counter.{major, minors, counter_block, with_minor, written_from, turned_minor, turned, forward}
use Rattle.journal.specs.Journal.{store, store_all, stages, finish, batch_stores, turn_stores, pending_stores}
use Rattle.memory_map.specs.Map.{pages, lines, nodes, level_start, slots, shadow_start, shadow_cells, cells, array_length, cell_of, InMap}
use Rattle.slot_map.specs.Slots.{cache_length, slot_of, level_of, belongs}
use Rattle.pad.specs.Pad.{pad, xor_bytes}
use Rattle.siphash.specs.SipHash.{initial, last_word, message_words, sip_round, compress, compress_all, finalize, sip_hash}
use Rattle.tag.specs.Tag.{node_input, node_tag, data_input, data_hash}
use Rattle.side.specs.Side.{side_bytes, side_fits}
use Rattle.candidates.specs.Candidates.{all_zero, cell_fits, candidate, each, also, chosen, choice}
use Rattle.words.specs.Bytes.{number, digits, words_of, bytes_of}
use Rattle.rotation.specs.Rotate.{rotl}

unfoldable pub run : ℕ
unfolding code_of stores_of first_of second_of owner dirty content with_slot cell_content shadow_owner from stray any_owner missing_top
    bad_slot flags_formed formed holds current judged format_refusal recovery_refusal access_refusal list_refusal storing
    counts_from fresh_node node_cells level_cells fresh_array formatted format side_ok line_text blank_text answered read_loaded read_path
    read_judged new_block line_cell write_batch write_stores written_cache write_loaded write_path write_judged turn_refusal turn_places bad_line
    batches_of turn_front turn_batches stores_for turned_cache turn_checked turn_loaded turn_path turn_judged before_last before_finished set_from
    with_bits written_from turned_minor turned turn_stores by_phase by_choice step_of all_zero cell_fits candidate each also chosen choice
    onward stepped forward_from forward_page rebuild_block rebuild_slot rebuild_blocks rebuild_node rebuild_nodes recover_root recover_rebuilt
    recover_shadow recover_judged is_dirty dirty_from page_list list_judged code_for_c buffer_for_c left_for_c evicted load_node load_levels renewed
    renew_path tags_from quarter quarter_round column_round diagonal_round rounds add_states start serialised block mark_of mark family depth
    root count new_root queued places queue in_map turn_count turn_page turn_mask is_open other_open valid_mark valid_head valid_turn valid
    fresh_control major minors counter_block with_minor forward store store_all stages finish batch_stores pending_stores pages lines nodes
    level_start slots shadow_start shadow_cells cells array_length cache_length cell_of InMap slot_of level_of belongs pad xor_bytes initial
    last_word message_words sip_round compress compress_all finalize sip_hash node_input node_tag data_input data_hash side_bytes side_fits
    number digits words_of bytes_of rotl
run = 0
